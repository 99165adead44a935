use Rattle.std.proofs.Common.{◌∙◌, subst, refl}
use Rattle.std.specs.Prelude.{IsOk}
use Rattle.h1_connection.specs.Pulls.{IsLightPull}
use Rattle.h1_connection.specs.State.{State}
use Rattle.h1_connection.proofs.MarkLemmas.{quiet_frame}
use Rattle.h1_connection.proofs.ResultLemmas.{ok_both}
use Rattle.h1_connection.proofs.GoesOnLemmas.{still_sound, same_state, some_goes_on, frame_pulled, frame_parts}
use Rattle.h1_connection.proofs.connection.Connection.pull_frame.Goals as goal

pub pull_frame-requires-clause-upgraded : goal.pull_frame-requires-clause-upgraded
pull_frame-requires-clause-upgraded c = frame_parts c.args.self.now c.self.inside.config c.self.inside.parts c.self.view_is c.requires.can_pull_frame

pub invariant_of-self : goal.invariant_of-self
invariant_of-self c = still_sound c.pull_frame.result _ _ _ c.self.invariant c.pull_frame.ensures.sound c.pull_frame.ensures.err

pub returns-clause-stands : goal.returns-clause-stands
returns-clause-stands c =
    ok_both c.pull_frame.result _ _ _ (λ answer steps marks. some_goes_on _ _ _ _ _ _ c.self.view_is (frame_pulled c.args.self.now c.requires.can_pull_frame) (λ out says. marks ∙ quiet_frame answer out _ says) c.pull_frame.ensures.ahead refl steps)
    c.pull_frame.ensures.ok c.pull_frame.ensures.marks

pub returns-clause-no_memory_needed : goal.returns-clause-no_memory_needed
returns-clause-no_memory_needed c =
    subst (λ (s : State). IsLightPull s.kept → IsOk c.pull_frame.result) c.self.view_is c.pull_frame.ensures.no_memory_needed

pub returns-clause-err : goal.returns-clause-err
returns-clause-err c = same_state c.pull_frame.result _ _ _ _ c.self.view_is c.pull_frame.ensures.err
