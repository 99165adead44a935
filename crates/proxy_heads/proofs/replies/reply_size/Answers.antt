use Rattle.std.proofs.Common.{sym, ◌∙◌}
use Rattle.proxy_heads.specs.ForwardedMeaning.{stated_or}
use Rattle.proxy_heads.proofs.ReplyLemmas.{size_is}
use Rattle.proxy_heads.proofs.replies.reply_size.Goals as goal

pub returns : goal.returns
returns c = λ a says.
    c.stated_or.ensures ∙ (λ i. stated_or (says.body i) (c.other_size.ensures a says i)) ∙ sym (size_is c.args.is_head a)
