use Rattle.std.proofs.Common.{◌∙◌, ◌≡◌, true, subst, refl}
use Rattle.std.specs.Prelude.{IsOk}
use Rattle.ws_frames.specs.Sent.{message_says}
use Rattle.h1_connection.specs.Frames.{sends_nothing}
use Rattle.h1_connection.specs.State.{State}
use Rattle.h1_connection.proofs.MarkLemmas.{quiet_send}
use Rattle.h1_connection.proofs.ResultLemmas.{ok_both}
use Rattle.h1_connection.proofs.GoesOnLemmas.{still_sound, same_state, some_goes_on}
use Rattle.h1_connection.proofs.connection.Connection.send.Goals as goal

pub invariant_of-self : goal.invariant_of-self
invariant_of-self c = still_sound c.send.result _ _ _ c.self.invariant c.send.ensures.sound c.send.ensures.err

pub returns-clause-stands : goal.returns-clause-stands
returns-clause-stands c =
    ok_both c.send.result _ _ _ (λ sent steps marks. some_goes_on _ _ _ _ _ _ c.self.view_is c.requires.can_send (λ out says. marks ∙ quiet_send sent out _ says) c.send.ensures.ahead refl steps)
    c.send.ensures.ok c.send.ensures.marks

pub returns-clause-no_memory_needed : goal.returns-clause-no_memory_needed
returns-clause-no_memory_needed c =
    subst (λ (s : State). sends_nothing s.kept (message_says c.args.message.now) ≡ true → IsOk c.send.result) c.self.view_is c.send.ensures.no_memory_needed

pub returns-clause-err : goal.returns-clause-err
returns-clause-err c = same_state c.send.result _ _ _ _ c.self.view_is c.send.ensures.err
