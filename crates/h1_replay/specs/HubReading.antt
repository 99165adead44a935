-- What the reading of a script gives, against what stands there. Memory may run out.
use Rattle.std.specs.Prelude.{ℕ, ◌≡◌, ⊤, List, Vec, Result, Ok, Err}
use Rattle.std.specs.declared.alloc.Global.{Global}
use Rattle.http_config.specs.Config.{Settings}
use Rattle.h1_replay.specs.declared.script.ScriptError.{ScriptError}
use Rattle.h1_replay.specs.declared.script.ScriptError.TheVariants.{BadLine, NoMemory}
use Rattle.rooms.specs.declared.event.HubEvent.{HubEvent}
use Rattle.h1_replay.specs.declared.hub_script.HubScript.{HubScript}

-- the events of some lines, or the number of the line that names none
abbrev pub ReadsEvents : Result (Vec HubEvent Global) ScriptError → Result (List HubEvent) ℕ → Type 0
ReadsEvents (Ok events) there = there ≡ Ok events.items
ReadsEvents (Err (BadLine n)) there = there ≡ Err n
ReadsEvents (Err NoMemory) there = ⊤

-- the whole script, or the number of the first line that is none
abbrev pub ReadsScript : Result HubScript ScriptError → Result (Settings × List HubEvent) ℕ → Type 0
ReadsScript (Ok read) there = there ≡ Ok (read.config, read.events.items)
ReadsScript (Err (BadLine n)) there = there ≡ Err n
ReadsScript (Err NoMemory) there = ⊤
