use Rattle.std.proofs.Common.{sym, ◌∙◌}
use Rattle.proxy.proofs.Sides.{tick_stays, tick_told, not_told}
use Rattle.proxy.proofs.Below.{tick_keeps}
use Rattle.proxy.proofs.upstream.tick_server.Goals as goal

pub returns-then-not-can_tick-clause-told : goal.returns-then-not-can_tick-clause-told
returns-then-not-can_tick-clause-told c = not_told c.args.moment c.args.server.now (sym c.can_tick.ensures ∙ c.if-not-can_tick.true)

pub returns-clause-stays : goal.returns-clause-stays
returns-clause-stays c = tick_stays c.args.moment c.args.server.now c.tick.new.self c.tick.ensures.settings c.tick.ensures.stands

pub returns-clause-told : goal.returns-clause-told
returns-clause-told c =
    tick_told c.args.moment c.args.server.now c.tick.new.self c.tick.ensures.settings (sym c.can_tick.ensures ∙ c.if-not-can_tick.false) c.tick.ensures.stands

pub returns-clause-waits : goal.returns-clause-waits
returns-clause-waits c = tick_keeps c.args.server.now c.tick.new.self c.args.moment _ c.tick.ensures.stands
