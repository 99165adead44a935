use Rattle.std.proofs.Common.{sym, ap, ◌∙◌, codes}
use Rattle.model_proxy.specs.HopNames.{is_among}
use Rattle.proxy_heads.specs.Words.{listed_words}
use Rattle.proxy_heads.proofs.LeftOut.{words_in_map}
use Rattle.proxy_heads.proofs.replies.lists_close.Goals as goal

pub returns : goal.returns
returns c =
    c.lists.ensures ∙ ap (λ vs. is_among (codes "close") (listed_words vs)) (c.as_slice.ensures.value ∙ c.get_all.ensures.values)
    ∙ ap (is_among (codes "close")) (sym (words_in_map c.args.headers.now c.len-valid.ensures.valid.distinct))
