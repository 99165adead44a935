use Rattle.std.proofs.Common.{[], refl, sym, subst, Some}
use Rattle.std.specs.Io.KnownBytes.{Consumes}
use Rattle.std.proofs.KnownBytes.{Consumes-nil, Appends-nil, Keeps-refl}
use Rattle.model_client.specs.ClientEvent as on
use Rattle.app_get.specs.Exchange.{Ends}
use Rattle.app_get.proofs.Steps.{emptied_all, quiet_still, one_step, done_moves, at_end}
use Rattle.app_get.proofs.Stopping.{err_stops, no_memory}
use Rattle.app_get.proofs.exchange.Exchange.close_body.Goals as goal

pub returns-clause-goes : goal.returns-clause-goes
returns-clause-goes g c =
    one_step _ _ _ on.body_end _ [] [] [] [] c.self.view_is c.in_ok-end_body.ensures.stands (done_moves on.body_end _ refl)
    (Consumes-nil _) (Appends-nil _) (subst (λ (e : Ends). Consumes e.file (Some []) []) (sym c.self.view_is) (at_end _ c.requires.end)) (λ _. Appends-nil _)
    (record { input = λ told. absurd (cc told); body = λ _. emptied_all _; keeps_rest = refl }) (quiet_still _ _ refl (Keeps-refl _) (λ is. is)) refl

pub returns-in_err-end_body-clause-stops : goal.returns-in_err-end_body-clause-stops
returns-in_err-end_body-clause-stops g c = err_stops _ _ _ _ c.from_residual.ensures.1 (no_memory _ _ _ _ c.self.view_is refl (Keeps-refl _))
