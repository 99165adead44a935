use Rattle.std.proofs.Common.{◌≡◌, lit<, Some, None, sym, ap, ◌∙◌}
use Rattle.std.specs.Prelude.{fold}
use Rattle.std.proofs.lemmas.Iterator.{items_from_drains}
use Rattle.std.proofs.lemmas.Iterator.Splits.{YieldsList-from_str_split}
use Rattle.http_values.specs.declared.shared.language_tag.Place.TheVariants.{Start}
use Rattle.http_values.proofs.TagSteps.{step, ends, subtags}
use Rattle.http_values.proofs.TagTexts.{is_tag, tag_leads}
use Rattle.http_values.proofs.shared.language_tag.is_language_tag.Goals as goal

pub returns-in-Some-place-2 : goal.returns-in-Some-place-2
returns-in-Some-place-2 c =
    let same = c.into_iter-subtag-iterator.ensures.into_iter_gives in
    let chain = YieldsList-from_str_split {s = c.into_iter-subtag-iterator.result} 45 c.args.s.now (lit< tt) (cc (same, c.split-subtag-items.ensures.text))
    (cc (same, c.split-subtag-items.ensures.has_more)) (cc (same, c.split-subtag-items.ensures.pattern)) in
    let whole = items_from_drains c.loop-subtag.yielded (c.loop-subtag.subtag-iterator, c.loop-subtag.yielded_by, λ _. (c.next.new.self, c.in-None.ensures.steps)) chain in
    let e : ends (fold step (Some Start) (subtags c.args.s.now)) ≡ c.is_end.result =
    ap (λ xs. ends (fold step (Some Start) xs)) (sym whole)
    ∙ (ap ends (sym c.loop-subtag.invariant) ∙ (ap ends c.in-Some-place-2.is ∙ sym c.is_end.ensures)) in
    (λ h. is_tag c.args.s.now (e ∙ h), λ h. sym e ∙ tag_leads c.args.s.now h)

pub returns-in-None-place-2 : goal.returns-in-None-place-2
returns-in-None-place-2 c =
    let same = c.into_iter-subtag-iterator.ensures.into_iter_gives in
    let chain = YieldsList-from_str_split {s = c.into_iter-subtag-iterator.result} 45 c.args.s.now (lit< tt) (cc (same, c.split-subtag-items.ensures.text))
    (cc (same, c.split-subtag-items.ensures.has_more)) (cc (same, c.split-subtag-items.ensures.pattern)) in
    let whole = items_from_drains c.loop-subtag.yielded (c.loop-subtag.subtag-iterator, c.loop-subtag.yielded_by, λ _. (c.next.new.self, c.in-None.ensures.steps)) chain in
    let e : ends (fold step (Some Start) (subtags c.args.s.now)) ≡ ends None =
    ap (λ xs. ends (fold step (Some Start) xs)) (sym whole) ∙ (ap ends (sym c.loop-subtag.invariant) ∙ ap ends c.in-None-place-2.is) in
    (λ h. is_tag c.args.s.now (e ∙ h), λ h. sym e ∙ tag_leads c.args.s.now h)
