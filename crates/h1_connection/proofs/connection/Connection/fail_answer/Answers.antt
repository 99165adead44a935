use Rattle.std.proofs.Common.{refl}
use Rattle.h1_connection.proofs.GoesOnLemmas.{goes_on}
use Rattle.h1_connection.proofs.connection.Connection.fail_answer.Goals as goal

pub invariant_of-self : goal.invariant_of-self
invariant_of-self c = c.fail_answer.ensures.sound

pub returns-clause-stands : goal.returns-clause-stands
returns-clause-stands c = goes_on _ _ _ _ _ _ c.self.view_is c.requires.can_end_answer c.fail_answer.ensures.ok c.fail_answer.ensures.marks c.fail_answer.ensures.ahead refl
