use Rattle.std.proofs.Common.{◌≡◌, ◌∙◌, true, ap, subst, refl}
use Rattle.std.specs.Prelude.{IsOk}
use Rattle.h1_connection.specs.Frames.{is_refused}
use Rattle.h1_connection.specs.State.{State}
use Rattle.h1_connection.specs.declared.connection.parts.Parts.{Parts}
use Rattle.h1_connection.proofs.MarkLemmas.{quiet_accept}
use Rattle.h1_connection.proofs.ResultLemmas.{ok_map, ok_both}
use Rattle.h1_connection.proofs.GoesOnLemmas.{still_sound, same_state, state_of, goes_on, allowed_parts, accept_waits, accept_raw}
use Rattle.h1_connection.proofs.connection.Connection.accept.Goals as goal

pub accept-requires-clause-waits : goal.accept-requires-clause-waits
accept-requires-clause-waits c = accept_waits c.self.inside.config c.self.inside.parts _ (allowed_parts _ _ c.self.inside.parts _ c.self.view_is c.requires.can_accept)

pub accept-requires-clause-raw : goal.accept-requires-clause-raw
accept-requires-clause-raw c = accept_raw c.self.inside.config c.self.inside.parts _ (allowed_parts _ _ c.self.inside.parts _ c.self.view_is c.requires.can_accept)

pub invariant_of-self : goal.invariant_of-self
invariant_of-self c = still_sound c.accept.result _ _ _ c.self.invariant c.accept.ensures.sound c.accept.ensures.err

pub returns-clause-stands : goal.returns-clause-stands
returns-clause-stands c =
    ok_both c.accept.result _ _ _ (λ accepted steps marks. goes_on _ _ _ _ _ _ c.self.view_is c.requires.can_accept steps (marks ∙ quiet_accept accepted _) c.accept.ensures.ahead refl) c.accept.ensures.ok c.accept.ensures.marks

pub returns-clause-refused : goal.returns-clause-refused
returns-clause-refused c =
    ok_map c.accept.result _ _ (λ accepted same refused. ap (λ (p : Parts). state_of c.self.inside.config p) (same refused) ∙ c.self.view_is) c.accept.ensures.refused

pub returns-clause-no_memory_needed : goal.returns-clause-no_memory_needed
returns-clause-no_memory_needed c =
    subst (λ (s : State). is_refused s.kept ≡ true → IsOk c.accept.result) c.self.view_is c.accept.ensures.no_memory_needed

pub returns-clause-err : goal.returns-clause-err
returns-clause-err c = same_state c.accept.result _ _ _ _ c.self.view_is c.accept.ensures.err
