-- The mark of a name, by which a line of a short map is found, and where a name stands.
use Rattle.std.specs.Prelude.{◌≡◌, ℕ, zero, suc, ◌+◌, ◌-◌, ◌*◌, ◌%◌, ◌^◌, ⊤, true, false, List, [], ◌∷◌, get_or, length, bytes_eq}
use Rattle.std.specs.Int.{bit_at}
use Rattle.std.specs.List.{AllByRecursion}
use Rattle.http_map.specs.HeaderMap.{Entries}

-- eight times the length of a name and its last byte but one
abbrev pub name_mark : List ℕ → ℕ
name_mark name = (length name * 8 % 2 ^ 64 + get_or name (length name - 2) 0) % 2 ^ 64

-- the bits of all these names' marks are set
abbrev pub IsSeen : ℕ → List (List ℕ) → Type 0
IsSeen bits names = AllByRecursion (λ name. bit_at bits (name_mark name % 64) ≡ 1) names

-- the name stands at the index, and not before it
abbrev pub StandsFirstAt : Entries → List ℕ → ℕ → Type 0
StandsFirstAt [] name i = ⊥
StandsFirstAt (e ∷ m) name zero = bytes_eq name e.0 ≡ true
StandsFirstAt (e ∷ m) name (suc i) = (bytes_eq name e.0 ≡ false) × StandsFirstAt m name i

-- the name isn't there
abbrev pub Lacks : Entries → List ℕ → Type 0
Lacks [] name = ⊤
Lacks (e ∷ m) name = (bytes_eq name e.0 ≡ false) × Lacks m name
