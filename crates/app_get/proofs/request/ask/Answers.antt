use Rattle.std.proofs.Common.{refl, sym, ◌∙◌, inl, inr}
use Rattle.app_get.specs.declared.error.GetError.TheVariants as get_error
use Rattle.app_get.proofs.Asking.{done_stands}
use Rattle.app_get.proofs.Stopping.{err_as}
use Rattle.app_get.proofs.request.ask.Goals as goal

pub returns-then-not-can_ask-clause-unasked : goal.returns-then-not-can_ask-clause-unasked
returns-then-not-can_ask-clause-unasked c = inr (refl, sym c.can_ask.ensures ∙ c.if-not-can_ask.true)

pub returns-in_err-ask-clause-unasked : goal.returns-in_err-ask-clause-unasked
returns-in_err-ask-clause-unasked c = err_as _ get_error.NoMemory _ c.from_residual.ensures.1 (inl refl)

pub returns-clause-asks : goal.returns-clause-asks
returns-clause-asks c = λ before stands. done_stands _ _ _ c.in_ok-ask.ensures.stands _ (c.tell_time.ensures before stands)
