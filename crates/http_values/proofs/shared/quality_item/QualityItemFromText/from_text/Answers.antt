use Rattle.std.proofs.Common.{ℕ, List, subst, refl}
use Rattle.http_values.specs.declared.read.ReadError.TheVariants.{Invalid}
use Rattle.http_values.proofs.QualityItemLemmas.{item_unique, same_error}
use Rattle.http_values.proofs.shared.quality_item.QualityItemFromText.from_text.Goals as goal

pub returns-in_default-clause-invalid : goal.returns-in_default-clause-invalid
returns-in_default-clause-invalid g c = (λ _ h. c.in_default.ensures h.0 h.1 h.2, λ _. refl)

pub returns-in-Err-clause-invalid : goal.returns-in-Err-clause-invalid
returns-in-Err-clause-invalid g c =
    let e = c.in-Err.ensures.invalid in (
      λ bad h.
          let same = item_unique c.args.s.now h.0 c.in-Some.item.now h.1 c.in-Some.quality h.2 c.in-Some.ensures in
          let P : List ℕ → Type 0 = λ t. g.T.FromText.is_text t in
          e.0 (same_error _ _ _ c.in-Err.e Invalid bad) (subst P same.0 h.3),
      λ none. same_error _ _ _ c.in-Err.e Invalid (e.1 (λ h. none (c.in-Some.item.now, c.in-Some.quality, c.in-Some.ensures, h))),
    )
