-- The parameters of a media type, by their names.
use Rattle.std.specs.Prelude.{◌≡◌, ℕ, ◌⊎◌, List, [], ◌∷◌, map, string_bytes}
use Rattle.std.specs.Char.{to_ascii_lowercase}
use Rattle.http_values.specs.declared.shared.mime.Parameter.{Parameter}

-- names and values as they were read
abbrev pub pair_of : Parameter → List ℕ × List ℕ
pair_of p = (string_bytes p.name, string_bytes p.value)

abbrev pub pairs_of : List Parameter → List (List ℕ × List ℕ)
pairs_of ps = map pair_of ps

-- the two names are one, but for case
abbrev pub IsSameName : List ℕ → List ℕ → Type 0
IsSameName a b = map to_ascii_lowercase a ≡ map to_ascii_lowercase b

-- no parameter has the name
abbrev pub HasNoName : List ℕ → List (List ℕ × List ℕ) → Type 0
HasNoName name [] = Unit {0}
HasNoName name (p ∷ ps) = ¬ (IsSameName p.0 name) × HasNoName name ps

-- the value is that of the first parameter of the name
abbrev pub IsFirstValue : List ℕ → List (List ℕ × List ℕ) → List ℕ → Type 0
IsFirstValue name [] value = ⊥
IsFirstValue name (p ∷ ps) value = (IsSameName p.0 name × (value ≡ p.1)) ⊎ (¬ (IsSameName p.0 name) × IsFirstValue name ps value)
