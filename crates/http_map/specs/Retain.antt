-- Which values `HeaderMap::retain` keeps, by the answers of its closure.
use Rattle.std.specs.Prelude.{◌≡◌, ℕ, Bool, List, [], ◌∷◌, if◌then◌else◌}
use Rattle.std.specs.Borrow.{Bor}
use Rattle.http_header.specs.FieldValue.{FieldValue}
use Rattle.http_map.specs.HeaderMap.{Entries, filled_first}

-- the closure may answer so at this name and this value
pub record MayAnswer (answers : Bor (List ℕ) → Bor FieldValue → Bool → Type 0) (name : List ℕ) (value : FieldValue) (answer : Bool) : Type 0 where
  pub shown_name : Bor (List ℕ)
  pub shown_value : Bor FieldValue
  pub is_name : shown_name.now ≡ name
  pub is_value : shown_value.now ≡ value
  pub answered : answers shown_name shown_value answer

-- each value stays or goes, in order, by an answer that the closure may give at it
abbrev pub KeepsValues : (FieldValue → Bool → Type 0) → List FieldValue → List FieldValue → Type 0
KeepsValues answers [] kept = kept ≡ []
KeepsValues answers (value ∷ values) kept =
    (answer : Bool) × (rest : List FieldValue) × answers value answer × KeepsValues answers values rest × (kept ≡ (if answer then value ∷ rest else rest))

-- the same name by name. A name whose values all went goes too
abbrev pub Retains : (List ℕ → FieldValue → Bool → Type 0) → Entries → Entries → Type 0
Retains answers [] kept = kept ≡ []
Retains answers (e ∷ m) kept =
    (values : List FieldValue) × (rest : Entries) × KeepsValues (answers e.0) e.1 values × Retains answers m rest × (kept ≡ filled_first e.0 values rest)

-- the closure answers as the test does
abbrev pub Computes : (Bor (List ℕ) → Bor FieldValue → Bool → Type 0) → (List ℕ → FieldValue → Bool) → Type 0
Computes answers test = (name : Bor (List ℕ)) (value : Bor FieldValue) (answer : Bool) → answers name value answer → answer ≡ test name.now value.now
