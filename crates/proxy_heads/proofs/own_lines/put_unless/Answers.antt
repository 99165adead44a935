use Rattle.std.proofs.Common.{List, ◌++◌, Option, sym, ap, ◌∙◌}
use Rattle.std.specs.Prelude.{option_map}
use Rattle.http_header.specs.FieldValue.{FieldValue}
use Rattle.model_h1.specs.Request.{Header}
use Rattle.model_h1.specs.AnswerText.{by_name}
use Rattle.h1_encoder.specs.Meaning.{headers_of}
use Rattle.proxy_heads.specs.Edges.{line_unless}
use Rattle.proxy_heads.proofs.MapLemmas.{put_none}
use Rattle.proxy_heads.proofs.RequestLemmas.{there_none, one_there}
use Rattle.proxy_heads.proofs.own_lines.put_unless.Goals as goal

pub returns-then-is_there : goal.returns-then-is_there
returns-then-is_there c =
    put_none c.args.headers.now c.len-valid.ensures.valid
    ∙ ap (λ (more : List Header). by_name (headers_of c.args.headers.now ++ more))
    (sym (there_none c.args.is_there c.args.name (option_map (λ (v : FieldValue). v.bytes) c.args.value) c.if-is_there.true))

pub returns-in_ok-put-in-Some : goal.returns-in_ok-put-in-Some
returns-in_ok-put-in-Some c =
    c.in_ok-put-in-Some.ensures
    ∙ ap (λ (more : List Header). by_name (headers_of c.args.headers.now ++ more)) (one_there c.args.is_there c.args.name c.in-Some.value.bytes c.if-is_there.false)
    ∙ ap (λ (value : Option FieldValue). by_name (headers_of c.args.headers.now ++ line_unless c.args.is_there c.args.name (option_map (λ (v : FieldValue). v.bytes) value)))
    (sym c.in-Some.is)

pub returns-in-None : goal.returns-in-None
returns-in-None c =
    put_none c.args.headers.now c.len-valid.ensures.valid
    ∙ ap (λ (value : Option FieldValue). by_name (headers_of c.args.headers.now ++ line_unless c.args.is_there c.args.name (option_map (λ (v : FieldValue). v.bytes) value)))
    (sym c.in-None.is)
