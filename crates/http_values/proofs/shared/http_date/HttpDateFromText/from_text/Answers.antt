use Rattle.std.proofs.Common.{◌∙◌, List, ℕ, subst}
use Rattle.httpdate.specs.Date.{IsDateText}
use Rattle.http_values.proofs.shared.http_date.HttpDateFromText.from_text.Goals as goal

pub returns-in-Some-clause-readable : goal.returns-in-Some-clause-readable
returns-in-Some-clause-readable c =
    let P : List ℕ → Type 0 = λ t. IsDateText t c.in-Some.date.date in
    (c.in-Some.date, (c.if-not-is_ascii.ensures.cases, subst P (c.as_bytes.ensures.value ∙ c.trim.ensures.trim) c.in-Some.ensures))

pub returns-in-Some-clause-invalid : goal.returns-in-Some-clause-invalid
returns-in-Some-clause-invalid c =
    let P : List ℕ → Type 0 = λ t. IsDateText t c.in-Some.date.date in (
      λ bad _. cc (bad),
      λ none. absurd (none (c.in-Some.date, (c.if-not-is_ascii.ensures.cases, subst P (c.as_bytes.ensures.value ∙ c.trim.ensures.trim) c.in-Some.ensures))),
    )
