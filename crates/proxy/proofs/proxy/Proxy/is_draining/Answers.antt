use Rattle.std.proofs.Common.{sym, ◌∙◌}
use Rattle.proxy.proofs.Sending.{next_is, some_waits, none_waits, closing_drains, waiting_drains, busy_drains, idle_drains}
use Rattle.proxy.proofs.proxy.Proxy.is_draining.Goals as goal

pub returns-then-is_closing : goal.returns-then-is_closing
returns-then-is_closing c = closing_drains c.args.self.now (sym c.is_closing.ensures ∙ c.if-is_closing.true)

pub returns-then-buffered-gt0 : goal.returns-then-buffered-gt0
returns-then-buffered-gt0 c =
    waiting_drains c.args.self.now (sym c.is_closing.ensures ∙ c.if-is_closing.false)
    (some_waits c.args.self.now c.buffered.result c.buffered.ensures.value c.if-buffered-gt0.true)

pub returns-then-is_idle : goal.returns-then-is_idle
returns-then-is_idle c =
    let going = sym c.is_closing.ensures ∙ c.if-is_closing.false in
    idle_drains c.args.self.now c.can_next-can_next.result going (none_waits c.args.self.now c.buffered.result c.buffered.ensures.value c.if-buffered-gt0.false)
    (sym c.is_idle-is_idle.ensures ∙ c.if-is_idle.true) (next_is c.args.self.now c.can_next-can_next.result c.can_next-can_next.ensures.value going)

pub returns-else-is_idle : goal.returns-else-is_idle
returns-else-is_idle c =
    c.if-is_idle.false
    ∙ busy_drains c.args.self.now (sym c.is_closing.ensures ∙ c.if-is_closing.false)
    (none_waits c.args.self.now c.buffered.result c.buffered.ensures.value c.if-buffered-gt0.false) (sym c.is_idle-is_idle.ensures ∙ c.if-is_idle.false)
