use Rattle.std.proofs.Common.{sym, ◌∙◌}
use Rattle.proxy_heads.proofs.ReplyLemmas.{text_kept, no_text_kept}
use Rattle.proxy_heads.proofs.replies.text_of.Goals as goal

pub returns-in-Ok : goal.returns-in-Ok
returns-in-Ok c =
    text_kept c.args.reason.now c.in-Ok.text.now (sym c.has_line_end.ensures ∙ c.if-has_line_end.false) c.in-Ok.ensures.cases.0 c.in-Ok.ensures.cases.1

pub returns-in-Err : goal.returns-in-Err
returns-in-Err c = no_text_kept c.args.reason.now c.in-Err.ensures.cases.0
