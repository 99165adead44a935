use Rattle.std.proofs.Common.{sym, ap, ◌∙◌}
use Rattle.std.specs.Prelude.{is_some}
use Rattle.h1_client.specs.ClientMeaning.{end_of}
use Rattle.proxy.proofs.Fresh.{some_mapped, used_closes, used_waits, used_next}
use Rattle.proxy.proofs.forwarding.has_read_all.Goals as goal

pub returns-then-is_some : goal.returns-then-is_some
returns-then-is_some c = used_closes _ _ _ (ap is_some (sym c.closing.ensures) ∙ some_mapped end_of c.closing.result ∙ sym c.is_some.ensures ∙ c.if-is_some.true)

pub returns-then-waiting-ne0 : goal.returns-then-waiting-ne0
returns-then-waiting-ne0 c = used_waits _ c.args.server.now.kept.waiting _ (λ few. c.if-waiting-ne0.true (c.waiting.ensures ∙ few))

pub returns : goal.returns
returns c =
    c.can_next.ensures
    ∙ used_next _ c.args.server.now.kept.waiting _ (ap is_some (sym c.closing.ensures) ∙ some_mapped end_of c.closing.result ∙ sym c.is_some.ensures ∙ c.if-is_some.false)
    (sym c.waiting.ensures ∙ c.if-waiting-ne0.false)
