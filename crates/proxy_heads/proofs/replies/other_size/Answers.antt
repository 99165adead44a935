use Rattle.std.proofs.Common.{ap, ◌∙◌, codes}
use Rattle.http_map.specs.HeaderMap.{Entries}
use Rattle.http_framing.specs.Kinds.{kind_of}
use Rattle.model_h1.specs.LengthTable.{stated_length, values_of}
use Rattle.h1_encoder.specs.Meaning.{headers_of, size_of}
use Rattle.model_proxy.specs.Answers.{open_size}
use Rattle.proxy_heads.proofs.ReplyLemmas.{head_sized, open_sized}
use Rattle.proxy_heads.proofs.replies.other_size.Goals as goal

pub returns-then-is_head : goal.returns-then-is_head
returns-then-is_head c = λ a says.
    head_sized c.args.item.now a c.args.is_head c.stated_length.result (size_of c.open_size-open.result) (size_of c.length_or.result) says
    c.if-is_head.true
    (c.stated_length.ensures ∙ ap (λ (m : Entries). stated_length (values_of (codes "content-length") (headers_of m))) c.headers.ensures)
    (c.open_size-open.ensures ∙ ap (λ n. open_size n (kind_of c.args.item.now.body)) c.status_of.ensures) c.length_or.ensures

pub returns : goal.returns
returns c = λ a says.
    open_sized c.args.item.now a c.args.is_head (size_of c.open_size-open.result) says c.if-is_head.false
    (c.open_size-open.ensures ∙ ap (λ n. open_size n (kind_of c.args.item.now.body)) c.status_of.ensures)
