-- What the reading of a line or a script gives, against what stands there. Memory may run out.
use Rattle.std.specs.Prelude.{ℕ, ◌≡◌, ⊤, List, Vec, String, string_bytes, Option, Some, None, Result, Ok, Err}
use Rattle.std.specs.declared.alloc.Global.{Global}
use Rattle.http_config.specs.Config.{Settings}
use Rattle.model_h1.specs.Frame as model
use Rattle.ws_frames.specs.Close.{reason_says}
use Rattle.ws_frames.specs.Sent.{message_says}
use Rattle.ws_frames.specs.declared.message.Message.{Message}
use Rattle.ws_frames.specs.declared.proto.CloseReason.{CloseReason}
use Rattle.h1_connection.specs.declared.event.Event.{Event}
use Rattle.h1_replay.specs.declared.word.LineError.{LineError}
use Rattle.h1_replay.specs.declared.word.LineError.TheVariants as line
use Rattle.h1_replay.specs.declared.script.Script.{Script}
use Rattle.h1_replay.specs.declared.script.ScriptError.{ScriptError}
use Rattle.h1_replay.specs.declared.script.ScriptError.TheVariants as script

-- a value of the text, or its refusal
abbrev pub Reads : {T : Type 0} → Result T LineError → Option T → Type 0
Reads (Ok value) there = there ≡ Some value
Reads (Err line.Unreadable) there = there ≡ None
Reads (Err line.NoMemory) there = ⊤

-- the same of bytes, and of the bytes of a text
abbrev pub ReadsItems : Result (Vec ℕ Global) LineError → Option (List ℕ) → Type 0
ReadsItems (Ok read) there = there ≡ Some read.items
ReadsItems (Err line.Unreadable) there = there ≡ None
ReadsItems (Err line.NoMemory) there = ⊤

abbrev pub ReadsText : Result (String Global) LineError → Option (List ℕ) → Type 0
ReadsText (Ok read) there = there ≡ Some (string_bytes read)
ReadsText (Err line.Unreadable) there = there ≡ None
ReadsText (Err line.NoMemory) there = ⊤

-- the same of a message and of a reason, by what they say
abbrev pub ReadsMessage : Result Message LineError → Option model.Message → Type 0
ReadsMessage (Ok read) there = there ≡ Some (message_says read)
ReadsMessage (Err line.Unreadable) there = there ≡ None
ReadsMessage (Err line.NoMemory) there = ⊤

abbrev pub ReadsReason : Result CloseReason LineError → Option model.CloseReason → Type 0
ReadsReason (Ok read) there = there ≡ Some (reason_says read)
ReadsReason (Err line.Unreadable) there = there ≡ None
ReadsReason (Err line.NoMemory) there = ⊤

-- what was read into a value, which is then the one that is there
abbrev pub ReadsInto : {T : Type 0} → Result Unit LineError → Option T → T → Type 0
ReadsInto (Ok done) there new = there ≡ Some new
ReadsInto (Err line.Unreadable) there new = there ≡ None
ReadsInto (Err line.NoMemory) there new = ⊤

-- the events of some lines, or the number of the line that names none
abbrev pub ReadsEvents : Result (Vec Event Global) ScriptError → Result (List Event) ℕ → Type 0
ReadsEvents (Ok events) there = there ≡ Ok events.items
ReadsEvents (Err (script.BadLine n)) there = there ≡ Err n
ReadsEvents (Err script.NoMemory) there = ⊤

-- the whole script, or the number of the first line that is none
abbrev pub ReadsScript : Result Script ScriptError → Result (Settings × List Event) ℕ → Type 0
ReadsScript (Ok read) there = there ≡ Ok (read.config, read.events.items)
ReadsScript (Err (script.BadLine n)) there = there ≡ Err n
ReadsScript (Err script.NoMemory) there = ⊤
