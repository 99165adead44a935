use Rattle.std.proofs.Common.{◌∙◌, ap}
use Rattle.h1_connection.specs.Incoming.{Incoming}
use Rattle.h1_connection.proofs.IntakeLemmas.{nothing_stocked}
use Rattle.h1_connection.proofs.connection.intake.Intake.new.Goals as goal

pub invariant_of-result : goal.invariant_of-result
invariant_of-result c = (nothing_stocked c.new.result c.new-2.result c.new.ensures).1

pub returns-clause-value : goal.returns-clause-value
returns-clause-value c =
    (nothing_stocked c.new.result c.new-2.result c.new.ensures).0 ∙ ap (λ (i : Incoming). record { unread = i.unread; piece = i.piece; ahead = 0 }) c.new-2.ensures.value
