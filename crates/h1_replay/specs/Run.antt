-- What the program answers: a status, and the text that goes to its output.
use Rattle.std.specs.Prelude.{ℕ, ◌≡◌, ◌++◌, ◌≤◌, ◌⊎◌, List, [], ◌∷◌, Option, Some, Ok, Err, length, codes, decimal}
use Rattle.std.specs.Io.KnownBytes.{Appends}
use Rattle.http_config.specs.Causes.{Rose}
use Rattle.http_config.specs.Config.{Settings}
use Rattle.model_h1.specs.Sums as sums
use Rattle.model_h1.specs.Laws.Runs as runs
use Rattle.h1_generated.specs.Generated.{setting, generated}
use Rattle.h1_generated.specs.Run.{IsSummary}
use Rattle.h1_connection.specs.Run.{IsWhole, IsMisplaced, AreAllowed, IsFirstRefused}
use Rattle.h1_connection.specs.declared.event.Event.{Event}
use Rattle.h1_connection.specs.declared.trace.Trace.{Trace}
use Rattle.h1_replay.specs.Input.{MAX_INPUT, Told, ReadsWhole, ReadsPast, ReadsToFault, ReadsUnfinished}
use Rattle.h1_replay.specs.Report.{IsReport}
use Rattle.h1_replay.specs.Script.{script_of}
use Rattle.h1_replay.specs.Word.{number_of}

-- the command that reads the input
abbrev pub IsReplay : List (List ℕ) → Type 0
IsReplay words = words ≡ codes "replay" ∷ []

-- two words are these numbers: a seed, and how many exchanges, at most 20000
pub record AreNumbers (seed_word count_word : List ℕ) (seed count : ℕ) : Type 0 where
  pub seed_is : number_of seed_word ≡ Some seed
  pub count_is : number_of count_word ≡ Some count
  pub within : count ≤ 20000

-- the command that runs generated exchanges
pub record IsGen (words : List (List ℕ)) (seed count : ℕ) : Type 0 where
  pub seed_word : List ℕ
  pub count_word : List ℕ
  pub words_are : words ≡ codes "gen" ∷ seed_word ∷ count_word ∷ []
  pub numbers : AreNumbers seed_word count_word seed count

-- neither
pub record IsOther (words : List (List ℕ)) : Type 0 where
  pub not_replay : ¬ IsReplay words
  pub not_gen : (seed count : ℕ) → ¬ IsGen words seed count

-- the texts that nothing but the status decides
abbrev pub usage_text : List ℕ
usage_text = codes "usage: h1_run replay | h1_run gen SEED COUNT\n"

abbrev pub read_fault_text : List ℕ
read_fault_text = codes "read fault\n"

abbrev pub too_long_text : List ℕ
too_long_text = codes "too long\n"

abbrev pub no_memory_text : List ℕ
no_memory_text = codes "no memory\n"

-- a word and a number on a line
abbrev pub numbered_line : List ℕ → ℕ → List ℕ
numbered_line word number = word ++ decimal number ++ codes "\n"

-- ---- what a script gives

-- the report of the script's one trace, in which each event was allowed
pub record IsDone (bytes text : List ℕ) : Type 0 where
  pub config : Settings
  pub events : List Event
  pub trace : Trace
  pub script : script_of bytes ≡ Ok (config, events)
  pub whole : IsWhole config events trace
  pub report : IsReport trace text

-- the number of the first line that is none of the grammar
pub record IsBadLine (bytes text : List ℕ) : Type 0 where
  pub number : ℕ
  pub script : script_of bytes ≡ Err number
  pub line : text ≡ numbered_line (codes "bad line ") number

-- the report of the events before the one that stopped the run, and a line with that one's place
pub record IsStoppedText (trace : Trace) (word : List ℕ) (index : ℕ) (text : List ℕ) : Type 0 where
  pub before : List ℕ
  pub report : IsReport trace before
  pub line : text ≡ before ++ numbered_line word index

-- such a text for a script that an event stops
pub record IsStopped (stop : Settings → List Event → ℕ → Trace → Type 0) (word bytes text : List ℕ) : Type 0 where
  pub config : Settings
  pub events : List Event
  pub index : ℕ
  pub trace : Trace
  pub script : script_of bytes ≡ Ok (config, events)
  pub stops : stop config events index trace
  pub is_text : IsStoppedText trace word index text

-- ---- what the words and the input give

-- Each status says what it says, and how far the source was read, which told `before` and then `now`. Memory may run out at any time.
pub data IsAnswer (words : List (List ℕ)) (before now : Told) (status : ℕ) (text : List ℕ) : Type 0 where
  done : (bytes : List ℕ) → IsReplay words → ReadsWhole before now bytes → IsDone bytes text → status ≡ 0 → IsAnswer words before now status text
  summed : (seed count : ℕ) → IsGen words seed count → now ≡ before → IsSummary seed count text → status ≡ 0 → IsAnswer words before now status text
  gen_no_memory : (seed count : ℕ) → IsGen words seed count → now ≡ before → text ≡ no_memory_text → status ≡ 7 → IsAnswer words before now status text
  usage : IsOther words → now ≡ before → text ≡ usage_text → status ≡ 1 → IsAnswer words before now status text
  bad_line : (bytes : List ℕ) → IsReplay words → ReadsWhole before now bytes → IsBadLine bytes text → status ≡ 2 → IsAnswer words before now status text
  misplaced : (bytes : List ℕ) → IsReplay words → ReadsWhole before now bytes → IsStopped IsMisplaced (codes "misplaced ") bytes text → status ≡ 3
      → IsAnswer words before now status text
  read_fault : IsReplay words → ReadsToFault before now → text ≡ read_fault_text → status ≡ 4 → IsAnswer words before now status text
  too_long : IsReplay words → ReadsPast before now → text ≡ too_long_text → status ≡ 6 → IsAnswer words before now status text
  no_memory : IsReplay words → ReadsUnfinished before now → text ≡ no_memory_text → status ≡ 7 → IsAnswer words before now status text

-- each of the generated events is allowed: there is a trace of all of them
abbrev pub AreTaken : ℕ → ℕ → Type 0
AreTaken seed count = (trace : List sums.Step) × runs.IsWhole setting (generated seed count) trace

-- ---- which status comes where no end fails

-- the source has these known bytes left: no more than are read, a script with these settings and events
pub record IsScript (left : Option (List ℕ)) (config : Settings) (events : List Event) : Type 0 where
  pub bytes : List ℕ
  pub known : left ≡ Some bytes
  pub within : length bytes ≤ MAX_INPUT
  pub script : script_of bytes ≡ Ok (config, events)

-- a script whose every event is allowed
pub record IsGood (left : Option (List ℕ)) : Type 0 where
  pub config : Settings
  pub events : List Event
  pub script : IsScript left config events
  pub allowed : AreAllowed config events

-- a script whose first event that isn't allowed stands at the index
pub record IsRefused (left : Option (List ℕ)) (index : ℕ) : Type 0 where
  pub config : Settings
  pub events : List Event
  pub script : IsScript left config events
  pub first : IsFirstRefused config events index

-- a report of the script's events before the one at the index, and a line that says that one is misplaced
pub record IsRefusal (left : Option (List ℕ)) (index : ℕ) (text : List ℕ) : Type 0 where
  pub config : Settings
  pub events : List Event
  pub trace : Trace
  pub script : IsScript left config events
  pub stops : IsMisplaced config events index trace
  pub is_text : IsStoppedText trace (codes "misplaced ") index text

-- no read and no write failed, by the counts of faults before and behind
pub record NoEndFailed (source source_then sink sink_then : ℕ) : Type 0 where
  pub reads : ¬ Rose source source_then
  pub writes : ¬ Rose sink sink_then

-- the status of a refusal, whose text the output grew by, or want of memory
abbrev pub IsRefusedWith : Option (List ℕ) → ℕ → Option (List ℕ) → Option (List ℕ) → ℕ → Type 0
IsRefusedWith left index given given_then status =
    ((status ≡ 3) × ((text : List ℕ) × IsRefusal left index text × Appends given given_then text)) ⊎ (status ≡ 7)
