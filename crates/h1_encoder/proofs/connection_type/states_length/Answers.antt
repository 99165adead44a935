use Rattle.std.proofs.Common.{◌≡◌, not, ap, sym, ◌∙◌, codes}
use Rattle.std.specs.Prelude.{nat_eq}
use Rattle.http_map.specs.HeaderMap.{Entries, value_count}
use Rattle.model_h1.specs.Answer.{has_header}
use Rattle.h1_encoder.specs.Meaning.{headers_of}
use Rattle.h1_encoder.proofs.ByName.{all_filled}
use Rattle.h1_encoder.proofs.HeaderLines.{named_lines, no_values}
use Rattle.h1_encoder.proofs.connection_type.states_length.Goals as goal

pub returns-then-len-ne0 : goal.returns-then-len-ne0
returns-then-len-ne0 c =
    c.contains_key.ensures.value ∙ sym (named_lines (codes "content-length") c.args.headers.now (all_filled c.args.headers.now c.len.ensures.valid.entries))

pub returns-else-len-ne0 : goal.returns-else-len-ne0
returns-else-len-ne0 c =
    let none : value_count c.args.headers.now ≡ 0 = sym c.len.ensures.value ∙ c.if-len-ne0.false in
    ap (λ n. not (nat_eq n 0)) c.if-len-ne0.false
    ∙ ap (λ (m : Entries). has_header (codes "content-length") (headers_of m))
    (sym (no_values c.args.headers.now (all_filled c.args.headers.now c.len.ensures.valid.entries) none))
