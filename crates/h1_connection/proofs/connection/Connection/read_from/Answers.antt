use Rattle.std.proofs.Common.{◌≤◌, length, subst, ap, ◌∙◌}
use Rattle.std.specs.Prelude.{◌↔◌, IsErrOf}
use Rattle.h1_connection.specs.State.{State}
use Rattle.h1_connection.specs.declared.connection.parts.Parts.{Parts}
use Rattle.h1_connection.specs.declared.error.ReadFromError.TheVariants as error
use Rattle.h1_connection.proofs.ResultLemmas.{ok_map, ok_both}
use Rattle.h1_connection.proofs.GoesOnLemmas.{still_sound, same_state, state_of, reads_in}
use Rattle.h1_connection.proofs.connection.Connection.read_from.Goals as goal

pub invariant_of-self : goal.invariant_of-self
invariant_of-self g c = still_sound c.read_from.result _ _ _ c.self.invariant c.read_from.ensures.sound c.read_from.ensures.err

pub returns-clause-stands : goal.returns-clause-stands
returns-clause-stands g c =
    ok_both c.read_from.result _ _ _ (λ count came marks. (came.0, came.1, came.2, reads_in _ _ _ _ came.0 c.self.view_is c.requires.can_read came.3 marks c.read_from.ensures.ahead)) c.read_from.ensures.ok c.read_from.ensures.marks

pub returns-clause-end : goal.returns-clause-end
returns-clause-end g c =
    ok_map c.read_from.result _ _ (λ count end none. (ap (λ (p : Parts). state_of c.self.inside.config p) (end none).0 ∙ c.self.view_is, (end none).1)) c.read_from.ensures.end

pub returns-clause-full : goal.returns-clause-full
returns-clause-full g c =
    subst (λ (s : State). IsErrOf c.read_from.result error.Full ↔ s.settings.h1_hold_size ≤ length s.kept.unread) c.self.view_is c.read_from.ensures.full

pub returns-clause-err : goal.returns-clause-err
returns-clause-err g c = same_state c.read_from.result _ _ _ _ c.self.view_is c.read_from.ensures.err
