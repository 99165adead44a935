use Rattle.std.proofs.Common.{◌≡◌, ◌∷◌, [], ◌++◌, codes, ap, ◌∙◌, Some}
use Rattle.http_header.specs.FieldValue.{FieldValue}
use Rattle.http_types.specs.ResponseHead.{ResponseParts}
use Rattle.model_h1.specs.AnswerText.{by_name}
use Rattle.model_client.specs.WrittenHead.{line_of}
use Rattle.h1_encoder.specs.Meaning.{headers_of, minor_of}
use Rattle.model_proxy.specs.Edge.{via}
use Rattle.proxy_heads.specs.ForwardedMeaning.{kept_reason, answer_lines}
use Rattle.proxy_heads.proofs.ReplyLemmas.{reply_is}
use Rattle.proxy_heads.proofs.replies.reply_head.Goals as goal

pub returns : goal.returns
returns c = λ piece a reading says.
    let head : ResponseParts = c.put_reason.new.head in
    let made = c.in_ok-put_reason.ensures in
    let statuses = ap (λ (h : ResponseParts). h.status) c.read.view_is in
    let lines = ap (λ (h : ResponseParts). headers_of h.headers) c.read.view_is in
    let stays : headers_of c.remove_unpassed.new.headers ≡ answer_lines c.args.item.head.status (headers_of c.args.item.head.headers) =
    c.remove_unpassed.ensures ∙ (λ i. answer_lines ((c.as_u16.ensures.value ∙ statuses) i) (lines i)) in
    let who : c.via.result.bytes ≡ via (minor_of c.args.item.head.version) =
    ap (λ (v : FieldValue). v.bytes) c.via.ensures ∙ ap (λ (h : ResponseParts). via (minor_of h.version)) c.read.view_is in
    reply_is c.args.item a piece head reading says
    (ap (λ (h : ResponseParts). h.status) made ∙ ap (λ (h : ResponseParts). h.status) c.headed-head.ensures ∙ statuses)
    (ap (λ (h : ResponseParts). h.reason) made ∙ ap (λ r. Some (kept_reason r)) c.as_slice.ensures)
    (ap (λ (h : ResponseParts). h.flags) made ∙ ap (λ (h : ResponseParts). h.flags) c.headed-head.ensures)
    (ap (λ (h : ResponseParts). headers_of h.headers) made ∙ ap (λ (h : ResponseParts). headers_of h.headers) c.headed-head.ensures
    ∙ c.in_ok-put.ensures ∙ (λ i. by_name (stays i ++ line_of (codes "via") (who i) ∷ [])))
