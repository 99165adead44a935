-- A script as the config and the events of a hub that its lines name.
use Rattle.std.specs.Prelude.{ℕ, ◌+◌, List, [], ◌∷◌, Option, Some, None, option_map, Result, Ok, Err, codes, if◌then◌else◌}
use Rattle.std.specs.Str.{bytes_eq}
use Rattle.http_config.specs.Config.{Settings}
use Rattle.h1_connection.specs.EventMeaning as meaning
use Rattle.h1_replay.specs.InputPieces.{only_of}
use Rattle.h1_replay.specs.Script.{config_of, event_of, words_of, lines_of}
use Rattle.h1_replay.specs.Word.{◌>>=◌, number_of}
use Rattle.model_rooms.specs.Trace.{is_fed}
use Rattle.rooms.specs.declared.event.HubEvent.{HubEvent}
use Rattle.rooms.specs.declared.event.HubEvent.TheVariants.{Open, Feed, Turn}

-- ---- a line

-- `open` stands alone
abbrev pub open_of : List (List ℕ) → Option HubEvent
open_of [] = Some Open
open_of (word ∷ more) = None

-- `turn` and the number of a connection
abbrev pub turn_of : List (List ℕ) → Option HubEvent
turn_of words = option_map (λ i. Turn i) (only_of words >>= number_of)

-- the number of a connection, and the line of an event that comes from outside: `read`, `eof`, `write`, `tick` or `drain`
abbrev pub feed_of : ℕ → List ℕ → List (List ℕ) → Option HubEvent
feed_of hold word words = do
  i ← number_of word
  event ← event_of hold words
  if is_fed (meaning.event_of event) then Some (Feed i event) else None

-- the event that a line names by its words, where so many bytes may be held
abbrev pub line_event : ℕ → List (List ℕ) → Option HubEvent
line_event hold [] = None
line_event hold (word ∷ words) =
    if bytes_eq word (codes "open") then open_of words
    else if bytes_eq word (codes "turn") then turn_of words
    else feed_of hold word words

-- ---- the whole

-- a first event before those of the later lines
abbrev pub with_event : ℕ → Option HubEvent → Result (List HubEvent) ℕ → Result (List HubEvent) ℕ
with_event n None later = Err n
with_event n (Some event) (Ok events) = Ok (event ∷ events)
with_event n (Some event) (Err bad) = Err bad

-- the events of the lines from line n on, or the number of the first that names none
abbrev pub events_of : ℕ → ℕ → List (List ℕ) → Result (List HubEvent) ℕ
events_of hold n [] = Ok []
events_of hold n (line ∷ lines) = with_event n (line_event hold (words_of line)) (events_of hold (n + 1) lines)

-- the settings before the events
abbrev pub with_events : Settings → Result (List HubEvent) ℕ → Result (Settings × List HubEvent) ℕ
with_events config (Ok events) = Ok (config, events)
with_events config (Err bad) = Err bad

abbrev pub with_config : Option Settings → List (List ℕ) → Result (Settings × List HubEvent) ℕ
with_config None lines = Err 1
with_config (Some config) lines = with_events config (events_of config.h1_hold_size 2 lines)

-- what the lines of a script say
abbrev pub script_by_lines : List (List ℕ) → Result (Settings × List HubEvent) ℕ
script_by_lines [] = Err 1
script_by_lines (line ∷ lines) = with_config (config_of (words_of line)) lines

-- a script: its config and its events, or the number, from 1, of its first line that is none of the grammar in its place
abbrev pub script_of : List ℕ → Result (Settings × List HubEvent) ℕ
script_of text = script_by_lines (lines_of text)
