use Rattle.std.proofs.Common.{refl, sym, ◌∙◌}
use Rattle.app_get.proofs.Asking.{time_may_be_told, time_stays_untold}
use Rattle.app_get.proofs.request.tell_time.Goals as goal

pub returns-then-not-can_tick : goal.returns-then-not-can_tick
returns-then-not-can_tick c = time_stays_untold c.args.connection.now c.args.connection.now c.args.moment (sym c.can_tick.ensures ∙ c.if-not-can_tick.true) refl

pub returns : goal.returns
returns c = time_may_be_told _ _ _ (sym c.can_tick.ensures ∙ c.if-not-can_tick.false) c.tick.ensures.stands
