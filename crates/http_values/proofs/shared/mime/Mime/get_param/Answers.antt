use Rattle.std.proofs.Common.{◌<◌, ℕ, List, length, get_or, arith, refl, sym, ap, subst, ◌∙◌}
use Rattle.std.specs.Prelude.{map, string_bytes}
use Rattle.std.specs.Char.{to_ascii_lowercase}
use Rattle.http_values.specs.declared.shared.mime.Parameter.{Parameter}
use Rattle.http_values.specs.Mime.{IsSameName, IsFirstValue, pairs_of}
use Rattle.http_values.proofs.MimeParameters.{no_name-more, first_at}
use Rattle.http_values.proofs.shared.mime.Mime.get_param.Goals as goal

pub returns-then-eq_ignore_ascii_case : goal.returns-then-eq_ignore_ascii_case
returns-then-eq_ignore_ascii_case c =
    let items = c.deref-param-items.ensures.value in
    let long = ap (λ (ps : List Parameter). length ps) items in
    let inside : c.loop-param.param-index < length c.args.self.now.params.items = omega (arith, long, c.loop-param-test.true) in
    let is = c.param-item.is ∙ ap (λ (ps : List Parameter). get_or ps c.loop-param.param-index c.param-item.result) items in
    let same : IsSameName (string_bytes c.param-item.result.name) c.args.name.now =
    ap (λ t. map to_ascii_lowercase t) (sym c.deref.ensures) ∙ c.if-eq_ignore_ascii_case.ensures.test.0 refl in
    let P : List ℕ → Type 0 = λ t. IsFirstValue c.args.name.now (pairs_of c.args.self.now.params.items) t in
    subst P (sym c.as_str.ensures.value)
    (first_at c.args.name.now c.args.self.now.params.items c.loop-param.param-index c.param-item.result inside is c.loop-param.invariant same)

pub loop-param-preserved : goal.loop-param-preserved
loop-param-preserved c =
    let items = c.deref-param-items.ensures.value in
    let long = ap (λ (ps : List Parameter). length ps) items in
    let inside : c.loop-param.param-index < length c.args.self.now.params.items = omega (arith, long, c.loop-param-test.true) in
    let is = c.param-item.is ∙ ap (λ (ps : List Parameter). get_or ps c.loop-param.param-index c.param-item.result) items in
    no_name-more c.args.name.now c.args.self.now.params.items c.loop-param.param-index c.param-item.result inside is c.loop-param.invariant
    (λ same. let bad = c.if-eq_ignore_ascii_case.ensures.test.1 (ap (λ t. map to_ascii_lowercase t) c.deref.ensures ∙ same) in cc (bad))
