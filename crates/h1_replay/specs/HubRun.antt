-- What the program answers: a status, and the text that goes to its output.
use Rattle.std.specs.Prelude.{ℕ, ◌≡◌, ◌++◌, ◌≤◌, ◌⊎◌, List, Option, Some, Ok, Err, length, codes}
use Rattle.std.specs.Io.KnownBytes.{Appends}
use Rattle.http_config.specs.Config.{Settings}
use Rattle.h1_replay.specs.Input.{MAX_INPUT, Told, ReadsWhole, ReadsPast, ReadsToFault, ReadsUnfinished}
use Rattle.h1_replay.specs.Run.{IsReplay, numbered_line, read_fault_text, too_long_text, no_memory_text}
use Rattle.rooms.specs.Run.{IsWhole, IsMisplaced, AreAllowed, IsFirstRefused}
use Rattle.rooms.specs.declared.event.HubEvent.{HubEvent}
use Rattle.rooms.specs.declared.driver.HubTrace.{HubTrace}
use Rattle.h1_replay.specs.HubReport.{IsReport}
use Rattle.h1_replay.specs.HubScript.{script_of}

abbrev pub usage_text : List ℕ
usage_text = codes "usage: ws_hub replay\n"

-- ---- what a script gives

-- the report of the script's one trace, in which each event was taken
pub record IsDone (bytes text : List ℕ) : Type 0 where
  pub config : Settings
  pub events : List HubEvent
  pub trace : HubTrace
  pub script : script_of bytes ≡ Ok (config, events)
  pub whole : IsWhole config events trace
  pub report : IsReport trace text

-- the number of the first line that is none of the grammar
pub record IsBadLine (bytes text : List ℕ) : Type 0 where
  pub number : ℕ
  pub script : script_of bytes ≡ Err number
  pub line : text ≡ numbered_line (codes "bad line ") number

-- the report of the events before the one that was refused, and a line with that one's place
pub record IsStoppedText (trace : HubTrace) (index : ℕ) (text : List ℕ) : Type 0 where
  pub before : List ℕ
  pub report : IsReport trace before
  pub line : text ≡ before ++ numbered_line (codes "misplaced ") index

-- such a text for a script of which an event is refused
pub record IsStopped (bytes text : List ℕ) : Type 0 where
  pub config : Settings
  pub events : List HubEvent
  pub index : ℕ
  pub trace : HubTrace
  pub script : script_of bytes ≡ Ok (config, events)
  pub stops : IsMisplaced config events index trace
  pub is_text : IsStoppedText trace index text

-- ---- what the words and the input give

-- Each status says what it says, and how far the source was read, which told `before` and then `now`. Memory may run out at any time.
pub data IsAnswer (words : List (List ℕ)) (before now : Told) (status : ℕ) (text : List ℕ) : Type 0 where
  done : (bytes : List ℕ) → IsReplay words → ReadsWhole before now bytes → IsDone bytes text → status ≡ 0 → IsAnswer words before now status text
  usage : ¬ IsReplay words → now ≡ before → text ≡ usage_text → status ≡ 1 → IsAnswer words before now status text
  bad_line : (bytes : List ℕ) → IsReplay words → ReadsWhole before now bytes → IsBadLine bytes text → status ≡ 2 → IsAnswer words before now status text
  misplaced : (bytes : List ℕ) → IsReplay words → ReadsWhole before now bytes → IsStopped bytes text → status ≡ 3 → IsAnswer words before now status text
  read_fault : IsReplay words → ReadsToFault before now → text ≡ read_fault_text → status ≡ 4 → IsAnswer words before now status text
  too_long : IsReplay words → ReadsPast before now → text ≡ too_long_text → status ≡ 6 → IsAnswer words before now status text
  no_memory : IsReplay words → ReadsUnfinished before now → text ≡ no_memory_text → status ≡ 7 → IsAnswer words before now status text

-- ---- which status comes where no end fails

-- the source has these known bytes left: no more than are read, a script with these settings and events
pub record IsScript (left : Option (List ℕ)) (config : Settings) (events : List HubEvent) : Type 0 where
  pub bytes : List ℕ
  pub known : left ≡ Some bytes
  pub within : length bytes ≤ MAX_INPUT
  pub script : script_of bytes ≡ Ok (config, events)

-- a script whose every event is taken
pub record IsGood (left : Option (List ℕ)) : Type 0 where
  pub config : Settings
  pub events : List HubEvent
  pub script : IsScript left config events
  pub allowed : AreAllowed config events

-- a script whose first event that is refused stands at the index
pub record IsRefused (left : Option (List ℕ)) (index : ℕ) : Type 0 where
  pub config : Settings
  pub events : List HubEvent
  pub script : IsScript left config events
  pub first : IsFirstRefused config events index

-- a report of the script's events before the one at the index, and a line that says that one is misplaced
pub record IsRefusal (left : Option (List ℕ)) (index : ℕ) (text : List ℕ) : Type 0 where
  pub config : Settings
  pub events : List HubEvent
  pub trace : HubTrace
  pub script : IsScript left config events
  pub stops : IsMisplaced config events index trace
  pub is_text : IsStoppedText trace index text

-- the status of a refusal, whose text the output grew by, or want of memory
abbrev pub IsRefusedWith : Option (List ℕ) → ℕ → Option (List ℕ) → Option (List ℕ) → ℕ → Type 0
IsRefusedWith left index given given_then status =
    ((status ≡ 3) × ((text : List ℕ) × IsRefusal left index text × Appends given given_then text)) ⊎ (status ≡ 7)
