-- In which step memory may run out where nobody listens.
use Rattle.std.specs.Prelude.{Some, None, ⊤, Ok, Err}
use Rattle.futures.specs.declared.task.Poll.TheVariants.{Ready, Pending}
use Rattle.http_bodies.specs.Giving.{Piece}
use Rattle.http_bodies.specs.declared.body.fault.BodyFault.TheVariants.{Body, NoMemory}
use Rattle.model_h1.specs.Event as on
use Rattle.h1_connection.specs.State.{TakesNoMemory}
use Rattle.h1_dispatcher.specs.View.{View}
use Rattle.h1_dispatcher.specs.Steps.{Step, failed, failed_write, failed_read, failed_sent}

-- to hand this on of a body takes memory; or the body itself was out of it
abbrev pub PieceTakes : View → Piece → Type 0
PieceTakes v (Ready (Some (Ok bytes))) = ¬ TakesNoMemory v.traced.state (on.chunk bytes)
PieceTakes v (Ready (Some (Err (Body n)))) = ⊥
PieceTakes v (Ready (Some (Err NoMemory))) = ⊤
PieceTakes v (Ready None) = ¬ TakesNoMemory v.traced.state on.body_end
PieceTakes v Pending = ⊥

-- The event of a step in which memory ran out takes some. Bytes that were written take none; those of a request's body that
-- are fed to its queue do.
abbrev pub TakesMemory : View → Step → Type 0
TakesMemory v (failed event) = ¬ TakesNoMemory v.traced.state event
TakesMemory v (failed_write count) = ⊥
TakesMemory v (failed_read came event) = ¬ TakesNoMemory v.traced.state event
TakesMemory v (failed_sent piece) = PieceTakes v piece
TakesMemory v step = ⊤
