use Rattle.std.proofs.Common.{ℕ, List, Option, Some, None, MatchOption, inr, ◌≡◌, ◌∷◌}
use Rattle.std.specs.Borrow.{Bor}
use Rattle.http_values.specs.MediaTypeCuts.{IsTokenCut, IsValueCut}
use Rattle.http_values.proofs.MimeLemmas.{no_value, no_quoted}
use Rattle.http_values.proofs.shared.mime.cut_value.Goals as goal

-- what begins with no quote is a value where it is a token
plain : (text : List ℕ) (r : Option (Bor (List ℕ) × Bor (List ℕ))) → ((inner : List ℕ) → ¬ (text ≡ 34 ∷ inner))
    → MatchOption r ((token rest : List ℕ) → ¬ (IsTokenCut text token rest)) (λ x. IsTokenCut text x.0.now x.1.now)
    → MatchOption r ((value rest : List ℕ) → ¬ (IsValueCut text value rest)) (λ x. IsValueCut text x.0.now x.1.now)
plain text None unquoted h = no_value text unquoted h
plain text (Some x) unquoted h = inr h

pub returns-in_default : goal.returns-in_default
returns-in_default c = plain c.args.text.now c.cut_token.result c.in_default.ensures c.cut_token.ensures

pub returns-in_default-after : goal.returns-in_default-after
returns-in_default-after c =
    no_quoted c.args.text.now c.in-Some.inner.now c.cut_run.result.0.now c.cut_run.result.1.now c.in-Some.ensures c.cut_run.ensures c.in_default-after.ensures
