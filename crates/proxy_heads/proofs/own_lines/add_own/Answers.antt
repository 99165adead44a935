use Rattle.std.proofs.Common.{ap, ◌∙◌, ℕ, List, ◌∷◌, [], ◌++◌, Some, codes}
use Rattle.std.specs.Prelude.{option_map}
use Rattle.http_header.specs.FieldValue.{FieldValue}
use Rattle.model_h1.specs.Answer.{has_header}
use Rattle.model_h1.specs.AnswerText.{by_name}
use Rattle.model_client.specs.WrittenHead.{line_of}
use Rattle.h1_encoder.specs.Meaning.{headers_of, minor_of}
use Rattle.proxy_heads.specs.Edges.{edge_of, line_unless}
use Rattle.proxy_heads.proofs.RequestLemmas.{all_added}
use Rattle.proxy_heads.proofs.own_lines.add_own.Goals as goal

pub returns : goal.returns
returns c =
    let hs = headers_of c.args.headers.now in
    let a = headers_of c.put.new.headers in
    let b = headers_of c.put-2.new.headers in
    let d = headers_of c.put-3.new.headers in
    all_added (edge_of c.args.edge.now) (option_map (λ (v : FieldValue). v.bytes) c.args.named) (minor_of c.args.version) hs a b d
    (headers_of c.put-4.new.headers) (headers_of c.put_unless.new.headers) (headers_of c.put_unless-2.new.headers)
    c.has_line-has_proto.result c.has_line-has_host.result (c.has_line-has_proto.ensures ∙ ap (λ (name : List ℕ). has_header name hs) c.x_forwarded_proto.ensures)
    (c.has_line-has_host.ensures ∙ ap (λ (name : List ℕ). has_header name hs) c.x_forwarded_host.ensures)
    (c.in_ok-put.ensures ∙ ap (λ (t : List ℕ). by_name (hs ++ line_of (codes "host") t ∷ [])) c.in_ok-host.ensures)
    (c.in_ok-put-2.ensures ∙ ap (λ (v : FieldValue). by_name (a ++ line_of (codes "via") v.bytes ∷ [])) c.via.ensures)
    (c.in_ok-put-3.ensures ∙ (λ i. by_name (b ++ line_of (c.x_forwarded_for.ensures i) (c.in_ok-address.ensures.cases i).bytes ∷ [])))
    (c.in_ok-put-4.ensures ∙ ap (λ (v : FieldValue). by_name (d ++ line_of (codes "forwarded") v.bytes ∷ [])) c.in_ok-element.ensures.cases)
    (c.in_ok-put_unless.ensures
    ∙ (λ i. by_name (headers_of c.put-4.new.headers ++ line_unless c.has_line-has_proto.result (c.x_forwarded_proto-2.ensures i) (Some (c.from_static-proto.ensures i).bytes))))
    (c.in_ok-put_unless-2.ensures
    ∙ ap (λ (name : List ℕ). by_name (headers_of c.put_unless.new.headers ++ line_unless c.has_line-has_host.result name (option_map (λ (v : FieldValue). v.bytes) c.args.named)))
    c.x_forwarded_host-2.ensures)
