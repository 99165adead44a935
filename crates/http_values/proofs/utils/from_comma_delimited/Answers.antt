use Rattle.std.proofs.Common.{List, ℕ, [], ◌∷◌, ◌++◌, subst, sym, refl, ◌≡◌}
use Rattle.http_values.specs.CommaList.{AreRead, comma_parts, values_parts}
use Rattle.http_values.proofs.ListLemmas.{AreRead-append, AreTexts-push, values_parts-push}
use Rattle.std.specs.Iterator.{Yields}
use Rattle.http_values.proofs.ListReadings.{yields_push, last_text}
use Rattle.http_values.proofs.utils.from_comma_delimited.Goals as goal

pub loop-value-preserved : goal.loop-value-preserved
loop-value-preserved g c =
    let inv = c.loop-value.invariant in
    let r = c.in_ok-read_list.ensures.ok in
    let P : List ℕ → Type 0 = λ t. AreRead g.T.FromText.is_text g.T.FromText.reads (comma_parts t) r.0 in
    let both = AreRead-append g.T.FromText.is_text g.T.FromText.reads (values_parts c.loop-value.yielded) (comma_parts c.in-Some.value.now.bytes)
    c.loop-value.items.items r.0 inv.1 (subst P c.in-Ok.ensures.ok r.1) in
    let Q : List g.row.T.Denot → Type 0 = λ xs. AreRead g.T.FromText.is_text g.T.FromText.reads (values_parts (c.loop-value.yielded ++ c.in-Some.value ∷ [])) xs in
    let R : List (List ℕ) → Type 0 = λ ps. AreRead g.T.FromText.is_text g.T.FromText.reads ps (c.loop-value.items.items ++ r.0) in (
      AreTexts-push c.loop-value.yielded c.in-Some.value inv.0 (c.in-Ok.ensures.succeeds.0 refl),
      subst Q (sym r.2) (subst R (sym (values_parts-push c.loop-value.yielded c.in-Some.value)) both),
    )

pub returns-in_default-clause-header : goal.returns-in_default-clause-header
returns-in_default-clause-header g c = λ _.
    let P : g.row.I.Denot → Type 0 = λ s. Yields g.I.Iterator.next_gives s (c.loop-value.yielded ++ c.in-Some.value ∷ []) c.next.new.self in
    let same : c.into_iter-value-iterator.result ≡ c.args.all = cc (c.into_iter-value-iterator.ensures.into_iter_gives) in (
      c.loop-value.yielded ++ c.in-Some.value ∷ [],
      c.next.new.self,
      subst P same
          (yields_push g.I.Iterator.next_gives c.loop-value.yielded c.in-Some.value c.into_iter-value-iterator.result c.loop-value.value-iterator c.next.new.self
          c.loop-value.yielded_by c.in-Some.ensures.steps),
      λ texts. let bad = c.in_default.ensures.succeeds.1 (last_text c.loop-value.yielded c.in-Some.value texts) in cc (bad),
    )
