-- What kind of body is left.
use Rattle.std.specs.Prelude.{◌≡◌, ℕ, Bool, true, false, List}
use Rattle.model_h1.specs.Place.{Place, broken}
use Rattle.model_state.specs.Kept.{Rest, no_rest, raw_rest, fixed_rest, chunks_rest}
use Rattle.h1_payload.specs.declared.rest.RestKind.{RestKind}
use Rattle.h1_payload.specs.declared.rest.RestKind.TheVariants as kind

-- nowhere in a body
abbrev pub is_broken_place : Place → Bool
is_broken_place broken = true
is_broken_place place = false

abbrev pub IsKind : RestKind → Rest → Type 0
IsKind kind.Nothing rest = rest ≡ no_rest
IsKind kind.Raw rest = rest ≡ raw_rest
IsKind kind.Fixed rest = (n : ℕ) × (rest ≡ fixed_rest n)
IsKind kind.Chunks rest = (place : Place) × (section : List ℕ) × (is_broken_place place ≡ false) × (rest ≡ chunks_rest place section)
IsKind kind.Broken rest = (section : List ℕ) × (rest ≡ chunks_rest broken section)
