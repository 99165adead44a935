use Rattle.std.proofs.Common.{ℕ, ◌≤◌, ◌<◌, List, length, arith, ap, subst, ◌∙◌}
use Rattle.std.specs.Str.{trim}
use Rattle.http_values.specs.QualityItem.{IsMarked}
use Rattle.http_values.proofs.QualityItemLemmas.{short_is_none, unread_is_none, unweighed_item}
use Rattle.http_values.proofs.shared.quality_item.split_item.Goals as goal

pub returns-then-mark-lt2 : goal.returns-then-mark-lt2
returns-then-mark-lt2 c =
    let e = ap (λ (t : List ℕ). length t) c.trim-mark.ensures.trim in
    let short : length (trim c.in-Some.back.now) < 2 = omega (arith, e, c.if-mark-lt2.true) in
    λ item n h. short_is_none c.args.s.now c.in-Some.front.now c.in-Some.back.now item n c.in-Some.ensures short h.form

pub returns-in_default-after_mark : goal.returns-in_default-after_mark
returns-in_default-after_mark c =
    let e = ap (λ (t : List ℕ). length t) c.trim-mark.ensures.trim in
    let long : 2 ≤ length (trim c.in-Some.back.now) = omega (arith, e, c.if-mark-lt2.false) in
    let P : List ℕ → Type 0 = λ t. (weight : List ℕ) → ¬ (IsMarked t weight) in
    let none : P (trim c.in-Some.back.now) = subst P (c.as_bytes.ensures.value ∙ c.trim-mark.ensures.trim) c.in_default-after_mark.ensures in
    unweighed_item c.args.s.now c.in-Some.front.now c.in-Some.back.now c.if-not-is_ascii.ensures.cases c.in-Some.ensures long none

pub returns-in_default-read_quality : goal.returns-in_default-read_quality
returns-in_default-read_quality c =
    let P : List ℕ → Type 0 = λ t. IsMarked t c.in-Some-after_mark.weight.now in
    let marked : P (trim c.in-Some.back.now) = subst P (c.as_bytes.ensures.value ∙ c.trim-mark.ensures.trim) c.in-Some-after_mark.ensures in
    λ item n h. unread_is_none c.args.s.now c.in-Some.front.now c.in-Some.back.now c.in-Some-after_mark.weight.now item n
    c.in-Some.ensures marked c.in_default-read_quality.ensures h.form
