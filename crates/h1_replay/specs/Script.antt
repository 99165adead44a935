-- A script as the config and the events that its lines name.
use Rattle.std.specs.Prelude.{ℕ, ◌+◌, ◌-◌, ◌==◌, ◌&&◌, nat_le, List, [], ◌∷◌, Option, Some, None, option_map, Result, Ok, Err, length, take, min, slice_index, codes, if◌then◌else◌}
use Rattle.std.specs.List.{slice_split}
use Rattle.std.specs.Str.{bytes_eq}
use Rattle.http_config.specs.Config.{Settings, default_settings}
use Rattle.http_config.specs.KeepAlive.{normalized}
use Rattle.http_config.specs.declared.hold_size.TheConstants.{MIN_HOLD_SIZE, MAX_HOLD_SIZE, DEFAULT_HOLD_SIZE}
use Rattle.h1_connection.specs.declared.event.Event.{Event}
use Rattle.h1_connection.specs.declared.event.Event.TheVariants.{Read, Eof, Next, Pull, DropBody, Continue, Chunk, BodyEnd, BodyError, Write, Tick, Drain, Accept}
use Rattle.h1_replay.specs.Answer.{answer_of}
use Rattle.h1_replay.specs.Message.{send_of}
use Rattle.h1_replay.specs.InputPieces.{only_of}
use Rattle.h1_replay.specs.Word.{◌>>=◌, number_of, bytes_of, flag_of, keep_alive_of}

-- ---- the first line

-- a number of bytes that a connection may hold
abbrev pub hold_of : List ℕ → Option ℕ
hold_of word = do
  size ← number_of word
  if nat_le MIN_HOLD_SIZE size && nat_le size MAX_HOLD_SIZE then Some size else None

-- the settings that five words and a hold size name
abbrev pub settings_by : List ℕ → List ℕ → List ℕ → List ℕ → List ℕ → ℕ → Option Settings
settings_by keep_alive request disconnect half_closed write_buffer hold = do
  keep_alive ← keep_alive_of keep_alive
  request ← number_of request
  disconnect ← number_of disconnect
  half_closed ← flag_of half_closed
  write_buffer ← number_of write_buffer
  if write_buffer == 0 then None else Some (record default_settings {
    keep_alive = normalized keep_alive;
    client_request_timeout = request;
    client_disconnect_timeout = disconnect;
    h1_allow_half_closed = half_closed;
    h1_write_buffer_size = write_buffer;
    h1_hold_size = hold;
  })

-- the hold size that a sixth word names, where there is one
abbrev pub hold_by : List (List ℕ) → Option ℕ
hold_by [] = Some DEFAULT_HOLD_SIZE
hold_by (word ∷ []) = hold_of word
hold_by _ = None

-- five words, or six
abbrev pub settings_of : List (List ℕ) → Option Settings
settings_of (keep_alive ∷ request ∷ disconnect ∷ half_closed ∷ write_buffer ∷ more) =
    hold_by more >>= settings_by keep_alive request disconnect half_closed write_buffer
settings_of _ = None

-- the settings that a first line names by its words
abbrev pub config_of : List (List ℕ) → Option Settings
config_of [] = None
config_of (name ∷ words) = if bytes_eq name (codes "config") then settings_of words else None

-- ---- the other lines

-- an event that has no words but its name
abbrev pub alone_of : Event → List (List ℕ) → Option Event
alone_of event [] = Some event
alone_of event (word ∷ more) = None

-- the events that have no words but their name
abbrev pub plain_event : List ℕ → Option Event
plain_event name =
    if bytes_eq name (codes "eof") then Some Eof
    else if bytes_eq name (codes "next") then Some Next
    else if bytes_eq name (codes "pull") then Some Pull
    else if bytes_eq name (codes "dropbody") then Some DropBody
    else if bytes_eq name (codes "continue") then Some Continue
    else if bytes_eq name (codes "bodyend") then Some BodyEnd
    else if bytes_eq name (codes "bodyerror") then Some BodyError
    else if bytes_eq name (codes "drain") then Some Drain
    else None

-- a read and a piece of a body by their one word, and a write and a tick
abbrev pub read_of : List (List ℕ) → Option Event
read_of words = option_map (λ bytes. Read bytes) (only_of words >>= bytes_of)

abbrev pub chunk_of : List (List ℕ) → Option Event
chunk_of words = option_map (λ bytes. Chunk bytes) (only_of words >>= bytes_of)

abbrev pub write_of : List (List ℕ) → Option Event
write_of words = option_map (λ count. Write count) (only_of words >>= number_of)

abbrev pub tick_of : List (List ℕ) → Option Event
tick_of words = option_map (λ moment. Tick moment) (only_of words >>= number_of)

-- the usual limit of a frame's payload: 65536 bytes, or as many as fit where fewer may be held
abbrev pub usual_limit : ℕ → ℕ
usual_limit hold = min 65536 (hold - 14)

-- an upgrade, with the usual limit or another one
abbrev pub accept_of : ℕ → List (List ℕ) → Option Event
accept_of hold [] = Some (Accept (usual_limit hold))
accept_of hold (word ∷ more) = option_map (λ limit. Accept limit) (only_of (word ∷ more) >>= number_of)

-- the events of a name with words, where so many bytes may be held
abbrev pub worded_event : ℕ → List ℕ → List (List ℕ) → Option Event
worded_event hold name words =
    if bytes_eq name (codes "read") then read_of words
    else if bytes_eq name (codes "chunk") then chunk_of words
    else if bytes_eq name (codes "write") then write_of words
    else if bytes_eq name (codes "tick") then tick_of words
    else if bytes_eq name (codes "answer") then answer_of words
    else if bytes_eq name (codes "accept") then accept_of hold words
    else if bytes_eq name (codes "send") then send_of words
    else None

-- the event of a name and the words behind it
abbrev pub event_named : ℕ → List ℕ → List (List ℕ) → Option Event
event_named hold name words = by_plain (plain_event name)
  where
    by_plain : Option Event → Option Event
    by_plain (Some event) = alone_of event words
    by_plain None = worded_event hold name words

-- the event that a line names by its words
abbrev pub event_of : ℕ → List (List ℕ) → Option Event
event_of hold [] = None
event_of hold (name ∷ words) = event_named hold name words

-- ---- the whole

-- the words of a line, between single blanks
abbrev pub words_of : List ℕ → List (List ℕ)
words_of line = slice_split (λ b. b == 32) line

-- a text without the line feed at its end, where there is one
abbrev pub without_last_feed : List ℕ → List ℕ
without_last_feed text = if slice_index text (length text - 1) == 10 then take (length text - 1) text else text

-- the lines of a text, whose last line feed may be missing
abbrev pub lines_of : List ℕ → List (List ℕ)
lines_of text = slice_split (λ b. b == 10) (without_last_feed text)

-- a first event before those of the later lines
abbrev pub with_event : ℕ → Option Event → Result (List Event) ℕ → Result (List Event) ℕ
with_event n None later = Err n
with_event n (Some event) (Ok events) = Ok (event ∷ events)
with_event n (Some event) (Err bad) = Err bad

-- the events of the lines from line n on, or the number of the first that names none, where so many bytes may be held
abbrev pub events_of : ℕ → ℕ → List (List ℕ) → Result (List Event) ℕ
events_of hold n [] = Ok []
events_of hold n (line ∷ lines) = with_event n (event_of hold (words_of line)) (events_of hold (n + 1) lines)

-- the settings before the events
abbrev pub with_events : Settings → Result (List Event) ℕ → Result (Settings × List Event) ℕ
with_events config (Ok events) = Ok (config, events)
with_events config (Err bad) = Err bad

abbrev pub with_config : Option Settings → List (List ℕ) → Result (Settings × List Event) ℕ
with_config None lines = Err 1
with_config (Some config) lines = with_events config (events_of config.h1_hold_size 2 lines)

-- what the lines of a script say
abbrev pub script_by_lines : List (List ℕ) → Result (Settings × List Event) ℕ
script_by_lines [] = Err 1
script_by_lines (line ∷ lines) = with_config (config_of (words_of line)) lines

-- a script: its config and its events, or the number, from 1, of its first line that is none of the grammar in its place
abbrev pub script_of : List ℕ → Result (Settings × List Event) ℕ
script_of text = script_by_lines (lines_of text)
