use Rattle.std.proofs.Common.{[], refl, sym, ap, subst, take, List, ℕ, ◌<◌, ◌≤◌, length, arith}
use Rattle.std.proofs.KnownBytes.{Consumes-nil, Appends-nil, Keeps-refl}
use Rattle.h1_client.specs.State.{IsAllowed}
use Rattle.model_client.specs.ClientEvent as on
use Rattle.model_client.specs.ClientTrace.{written}
use Rattle.app_get.specs.Exchange.{Ends}
use Rattle.app_get.proofs.Steps.{ends_none, quiet_still, one_with, no_step, gave_moves, appends_same}
use Rattle.app_get.proofs.Sending.{some_sent, some_taken, gave_some, none_now}
use Rattle.app_get.proofs.exchange.Exchange.write_front.Goals as goal

pub advance-requires-clause-can_write : goal.advance-requires-clause-can_write
advance-requires-clause-can_write g c =
    subst (λ (e : Ends). IsAllowed e.state (on.write c.in-Ok.count)) (sym c.self.view_is) (c.requires.can_write c.in-Ok.count)

pub returns-in-Ok : goal.returns-in-Ok
returns-in-Ok g c =
    let waits : 0 < length c.self.inside.connection.kept.buffered =
    subst (λ (e : Ends). 0 < length e.state.kept.buffered) (sym c.self.view_is) c.requires.some in
    let within : c.in-Ok.count ≤ length c.self.inside.connection.kept.buffered = omega (arith, c.in-Ok.ensures.bound, ap (λ (l : List ℕ). length l) c.front.ensures) in
    let some : 0 < c.in-Ok.count = c.in-Ok.ensures.progress (omega (arith, waits, ap (λ (l : List ℕ). length l) c.front.ensures)) in
    some_sent _ _ _ c.in-Ok.count _ c.self.view_is
    (one_with _ _ _ (on.write c.in-Ok.count) _ [] _ [] [] (λ more. 0 < length (written more)) c.self.view_is c.advance.ensures.stands (gave_moves c.in-Ok.count _ _)
    (Consumes-nil _) (appends_same _ _ _ _ (ap (λ (l : List ℕ). take c.in-Ok.count l) c.front.ensures) c.in-Ok.ensures.bytes) (Consumes-nil _) (λ _. Appends-nil _)
    (ends_none (on.write c.in-Ok.count) _ _ refl refl refl) (quiet_still _ _ refl (Keeps-refl _) (λ is. is)) refl
    (gave_some _ _ c.advance.ensures.stands.says (some_taken _ _ within some)))
    c.advance.ensures.stands

pub returns-in-Err : goal.returns-in-Err
returns-in-Err g c =
    none_now _ _ _ c.self.view_is
    (no_step _ _ _ c.self.view_is refl (Keeps-refl _) c.in-Err.ensures.bytes (Consumes-nil _) (λ _. Appends-nil _) (quiet_still _ _ refl (Keeps-refl _) (λ is. is)) refl refl refl)
    c.in-Err.ensures.cause.failed (Keeps-refl _) refl

pub returns-in-Err-2 : goal.returns-in-Err-2
returns-in-Err-2 g c =
    none_now _ _ _ c.self.view_is
    (no_step _ _ _ c.self.view_is refl (Keeps-refl _) c.in-Err-2.ensures.bytes (Consumes-nil _) (λ _. Appends-nil _) (quiet_still _ _ refl (Keeps-refl _) (λ is. is)) refl refl refl)
    c.in-Err-2.ensures.cause.failed (Keeps-refl _) refl
