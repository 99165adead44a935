use Rattle.std.proofs.Common.{refl}
use Rattle.h1_connection.proofs.ResultLemmas.{ok_both}
use Rattle.h1_connection.proofs.GoesOnLemmas.{still_sound, same_state, goes_on}
use Rattle.h1_connection.proofs.connection.Connection.read.Goals as goal

pub invariant_of-self : goal.invariant_of-self
invariant_of-self c = still_sound c.read.result _ _ _ c.self.invariant c.read.ensures.sound c.read.ensures.err

pub returns-clause-stands : goal.returns-clause-stands
returns-clause-stands c =
    ok_both c.read.result _ _ _ (λ given steps marks. goes_on _ _ _ _ _ _ c.self.view_is c.requires.can_read steps marks c.read.ensures.ahead refl) c.read.ensures.ok c.read.ensures.marks

pub returns-clause-err : goal.returns-clause-err
returns-clause-err c = same_state c.read.result _ _ _ _ c.self.view_is c.read.ensures.err
