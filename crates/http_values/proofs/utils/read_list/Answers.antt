use Rattle.std.proofs.Common.{◌≡◌, List, ℕ, [], ◌∷◌, ◌++◌, true, lit<, subst, sym, ap, ◌∙◌, refl, append_assoc}
use Rattle.std.specs.Prelude.{is_ok}
use Rattle.std.specs.Str.{trim}
use Rattle.std.proofs.lemmas.Iterator.{items_from_drains}
use Rattle.std.proofs.lemmas.Iterator.Splits.{YieldsList-from_str_split}
use Rattle.http_values.specs.CommaList.{AreRead}
use Rattle.http_values.proofs.ListLemmas.{AreRead-skip_now, AreRead-take_now, not_filled, is_filled}
use Rattle.http_values.proofs.utils.read_list.Goals as goal

pub loop-part-preserved-then-is_empty : goal.loop-part-preserved-then-is_empty
loop-part-preserved-then-is_empty g c =
    let inv = c.loop-part.invariant in (
      inv.0,
      AreRead-skip_now g.T.FromText.is_text g.T.FromText.reads c.loop-part.yielded inv.0 c.in-Some.part inv.1
          (λ filled. absurd (not_filled c.trim-trimmed.result.now (trim c.in-Some.part.now) c.if-is_empty.ensures c.trim-trimmed.ensures.trim filled)),
      inv.2,
    )

pub loop-part-preserved-else-is_err : goal.loop-part-preserved-else-is_err
loop-part-preserved-else-is_err g c =
    let inv = c.loop-part.invariant in
    let P : List ℕ → Type 0 = λ t. g.T.FromText.reads t c.in-Ok.item in
    let ok : is_ok c.push.result ≡ true = c.if-is_err.ensures.negation in
    let items = rw ok at c.push.ensures.items in (
      inv.0 ++ c.in-Ok.item ∷ [],
      AreRead-take_now g.T.FromText.is_text g.T.FromText.reads c.loop-part.yielded inv.0 c.in-Some.part c.in-Ok.item inv.1
          (is_filled c.trim-trimmed.result.now (trim c.in-Some.part.now) c.if-is_empty.ensures c.trim-trimmed.ensures.trim)
          (subst P c.trim-trimmed.ensures.trim c.in-Ok.ensures.ok),
      items ∙ (ap (λ xs. xs ++ c.in-Ok.item ∷ []) inv.2 ∙ append_assoc c.args.items.now.items inv.0 (c.in-Ok.item ∷ [])),
    )

pub loop-part-preserved : goal.loop-part-preserved
loop-part-preserved g c =
    let inv = c.loop-part.invariant in
    let none = (rw c.in-Err-Invalid.field-0-is at c.in-Err-Invalid.ensures.invalid).0 refl in
    let P : List ℕ → Type 0 = λ t. g.T.FromText.is_text t in (
      inv.0,
      AreRead-skip_now g.T.FromText.is_text g.T.FromText.reads c.loop-part.yielded inv.0 c.in-Some.part inv.1
          (λ _ t. none (subst P (sym c.trim-trimmed.ensures.trim) t)),
      inv.2,
    )

pub returns-clause-ok : goal.returns-clause-ok
returns-clause-ok g c =
    let same = c.into_iter-part-iterator.ensures.into_iter_gives in
    let chain = YieldsList-from_str_split {s = c.into_iter-part-iterator.result} 44 c.args.text.now (lit< tt) (cc (same, c.split-part-items.ensures.text))
    (cc (same, c.split-part-items.ensures.has_more)) (cc (same, c.split-part-items.ensures.pattern)) in
    let whole = items_from_drains c.loop-part.yielded (c.loop-part.part-iterator, c.loop-part.yielded_by, λ _. (c.next.new.self, c.in-None.ensures.steps)) chain in
    let P : List (List ℕ) → Type 0 = λ ps. AreRead g.T.FromText.is_text g.T.FromText.reads ps c.loop-part.invariant.0 in
    (c.loop-part.invariant.0, subst P whole c.loop-part.invariant.1, c.loop-part.invariant.2)
