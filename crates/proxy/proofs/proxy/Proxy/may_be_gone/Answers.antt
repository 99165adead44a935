use Rattle.std.proofs.Common.{not, sym, ap, ◌∙◌}
use Rattle.proxy.proofs.Sending.{reading_stays, closing_stays, idle_stays, busy_goes}
use Rattle.proxy.proofs.proxy.Proxy.may_be_gone.Goals as goal

pub returns-then-can_read : goal.returns-then-can_read
returns-then-can_read c = reading_stays c.args.self.now (sym c.can_read.ensures.eof ∙ c.if-can_read.true)

pub returns-then-is_closing : goal.returns-then-is_closing
returns-then-is_closing c = closing_stays c.args.self.now (sym c.can_read.ensures.eof ∙ c.if-can_read.false) (sym c.is_closing.ensures ∙ c.if-is_closing.true)

pub returns-then-not-is_idle : goal.returns-then-not-is_idle
returns-then-not-is_idle c =
    busy_goes c.args.self.now c.is_answering-is_answering.result (sym c.can_read.ensures.eof ∙ c.if-can_read.false) (sym c.is_closing.ensures ∙ c.if-is_closing.false)
    (sym c.is_idle-is_idle.ensures ∙ c.if-not-is_idle.true) c.is_answering-is_answering.ensures

pub returns-else-not-is_idle : goal.returns-else-not-is_idle
returns-else-not-is_idle c =
    ap not c.if-not-is_idle.false
    ∙ idle_stays c.args.self.now (sym c.can_read.ensures.eof ∙ c.if-can_read.false) (sym c.is_closing.ensures ∙ c.if-is_closing.false)
    (sym c.is_idle-is_idle.ensures ∙ c.if-not-is_idle.false)
