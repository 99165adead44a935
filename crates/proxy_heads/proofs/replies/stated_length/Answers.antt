use Rattle.std.proofs.Common.{ap, ◌∙◌}
use Rattle.httparse.specs.Grammar.{trim_ows}
use Rattle.model_h1.specs.LengthTable.{length_value}
use Rattle.proxy_heads.proofs.ReplyLemmas.{first_stated, none_stated}
use Rattle.proxy_heads.proofs.replies.stated_length.Goals as goal

pub returns-in-Some : goal.returns-in-Some
returns-in-Some c =
    c.content_length.ensures ∙ ap length_value (c.trimmed.ensures ∙ ap trim_ows c.as_bytes.ensures.value)
    ∙ first_stated c.args.headers.now c.in-Some.value.now c.len-valid.ensures.valid.distinct c.in-Some.ensures.value

pub returns-in-None : goal.returns-in-None
returns-in-None c = none_stated c.args.headers.now c.len-valid.ensures.valid.distinct c.in-None.ensures.value
