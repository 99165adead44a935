use Rattle.std.proofs.Common.{◌∙◌, ap}
use Rattle.h1_connection.specs.Stock.{Stock}
use Rattle.h1_connection.proofs.IntakeLemmas.{nothing_stocked}
use Rattle.h1_connection.proofs.connection.intake.Intake.forget.Goals as goal

pub invariant_of-self : goal.invariant_of-self
invariant_of-self c = (nothing_stocked c.new-self-inside.result c.self.inside.input c.new-self-inside.ensures).1

pub returns : goal.returns
returns c =
    (nothing_stocked c.new-self-inside.result c.self.inside.input c.new-self-inside.ensures).0 ∙ ap (λ (s : Stock). record { unread = s.unread; piece = s.piece; ahead = 0 }) c.self.view_is
