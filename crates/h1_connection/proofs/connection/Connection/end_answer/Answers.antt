use Rattle.std.proofs.Common.{refl}
use Rattle.h1_connection.proofs.ResultLemmas.{on_both}
use Rattle.h1_connection.proofs.GoesOnLemmas.{still_sound, same_state, goes_on}
use Rattle.h1_connection.proofs.connection.Connection.end_answer.Goals as goal

pub invariant_of-self : goal.invariant_of-self
invariant_of-self c = still_sound c.end_answer.result _ _ _ c.self.invariant c.end_answer.ensures.sound c.end_answer.ensures.err

pub returns-clause-stands : goal.returns-clause-stands
returns-clause-stands c =
    on_both c.end_answer.result _ _ _ (λ steps marks. goes_on _ _ _ _ _ _ c.self.view_is c.requires.can_end_answer steps marks c.end_answer.ensures.ahead refl) c.end_answer.ensures.ok c.end_answer.ensures.marks

pub returns-clause-err : goal.returns-clause-err
returns-clause-err c = same_state c.end_answer.result _ _ _ _ c.self.view_is c.end_answer.ensures.err
