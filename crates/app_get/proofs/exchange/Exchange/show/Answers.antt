use Rattle.std.proofs.Common.{refl, sym, ◌∙◌}
use Rattle.std.proofs.KnownBytes.{Consumes-nil, Keeps-refl}
use Rattle.app_get.proofs.Going.{goes_none}
use Rattle.app_get.proofs.Steps.{no_step, never_hidden, quiet_known}
use Rattle.app_get.proofs.Stopping.{err_stops, head_fails}
use Rattle.app_get.proofs.exchange.Exchange.show.Goals as goal

pub returns-in_ok-write_head-clause-part : goal.returns-in_ok-write_head-clause-part
returns-in_ok-write_head-clause-part g c = (
  refl,
  no_step _ _ _ c.self.view_is refl (Keeps-refl _) (Keeps-refl _) (Consumes-nil _) (never_hidden _ _ c.if-self.true)
      (quiet_known _ _ _ refl (sym c.is_some.ensures ∙ c.if-is_some.true) (λ is. (is, refl))) refl refl refl,
)

pub returns-in_err-write_head-clause-stops : goal.returns-in_err-write_head-clause-stops
returns-in_err-write_head-clause-stops g c =
    err_stops _ _ _ _ c.from_residual.ensures.1 (head_fails _ _ _ _ c.self.view_is c.if-self.true c.in_err-write_head.ensures.err)

pub returns-else-self-clause-part : goal.returns-else-self-clause-part
returns-else-self-clause-part g c = (refl, goes_none _)
