use Rattle.std.proofs.Common.{subst}
use Rattle.ws_frames.specs.Framing.{Reads}
use Rattle.ws_dispatcher.proofs.ws.writing_leaves_what_is_read.Goals as goal

pub returns : goal.returns
returns g c d e item text bytes r wrote said = subst (λ x. Reads x bytes r) wrote.4 said
