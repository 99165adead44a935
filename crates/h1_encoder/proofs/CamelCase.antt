-- Camel case, byte by byte.
use Rattle.std.proofs.Common.{◌≡◌, ℕ, Bool, true, false, not, ◌&&◌, if◌then◌else◌, List, [], ◌∷◌, refl, ap}
use Rattle.std.specs.Prelude.{◌==◌}
use Rattle.model_h1.specs.AnswerText.{raised, camel_rest, camel_case}

-- the bytes, of which the first is raised or isn't
abbrev pub cased : Bool → List ℕ → List ℕ
cased raises [] = []
cased raises (b ∷ bytes) = (if raises then raised b else b) ∷ cased (not raises && (b == 45)) bytes

rest_step : (hyphen : Bool) (b c : ℕ) (bytes : List ℕ) → camel_rest bytes ≡ cased false bytes → camel_rest (c ∷ bytes) ≡ cased false (c ∷ bytes)
    → (if hyphen then b ∷ raised c ∷ camel_rest bytes else b ∷ camel_rest (c ∷ bytes)) ≡ b ∷ cased hyphen (c ∷ bytes)
rest_step true b c bytes behind next = ap (λ (l : List ℕ). b ∷ raised c ∷ l) behind
rest_step false b c bytes behind next = ap (λ (l : List ℕ). b ∷ l) next

-- behind the first byte
camel_rest-cased : (bytes : List ℕ) → camel_rest bytes ≡ cased false bytes
unfolding camel_rest
camel_rest-cased [] = refl
camel_rest-cased (b ∷ []) = refl
camel_rest-cased (b ∷ c ∷ bytes) = rest_step (b == 45) b c bytes (camel_rest-cased bytes) (camel_rest-cased (c ∷ bytes))

-- from the first byte on
pub camel_case-cased : (bytes : List ℕ) → camel_case bytes ≡ cased true bytes
camel_case-cased [] = refl
camel_case-cased (b ∷ bytes) = ap (λ (l : List ℕ). raised b ∷ l) (camel_rest-cased bytes)
