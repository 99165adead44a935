use Rattle.std.proofs.Common.{refl}
use Rattle.h1_connection.proofs.ResultLemmas.{ok_two}
use Rattle.h1_connection.proofs.GoesOnLemmas.{still_sound, same_state, goes_on}
use Rattle.h1_connection.proofs.connection.Connection.write.Goals as goal

pub invariant_of-self : goal.invariant_of-self
invariant_of-self c = still_sound c.give.result _ _ _ c.self.invariant c.give.ensures.sound c.give.ensures.err

pub returns-clause-stands : goal.returns-clause-stands
returns-clause-stands c =
    ok_two c.give.result _ _ _ (λ given steps marks. goes_on _ _ _ _ _ _ c.self.view_is c.requires.can_write steps marks c.give.ensures.ahead refl) c.give.ensures.ok c.give.ensures.marks

pub returns-clause-err : goal.returns-clause-err
returns-clause-err c = same_state c.give.result _ _ _ _ c.self.view_is c.give.ensures.err
