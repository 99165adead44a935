-- What is still to come from an iterator over a map.
use Rattle.std.specs.Prelude.{◌≡◌, ℕ, List, [], ◌++◌, length, All, Option, Some, None}
use Rattle.std.specs.Borrow.{Bor}
use Rattle.http_header.specs.FieldValue.{FieldValue}
use Rattle.http_map.specs.HeaderMap.{Pair, Entries, IsEntry, entry_pairs, pairs}

-- the pairs that are left of the name in hand
abbrev pub current_pairs : Option (Bor (List ℕ) × Bor (List FieldValue)) → List Pair
current_pairs None = []
current_pairs (Some p) = entry_pairs (p.0.now, p.1.now)

-- the pairs that are left: those of the name in hand, and then those of the later names
abbrev pub pairs_left : Option (Bor (List ℕ) × Bor (List FieldValue)) → Entries → List Pair
pairs_left current later = current_pairs current ++ pairs later

-- the count is kept, and each later entry is one of a map
pub record IsIter (current : Option (Bor (List ℕ) × Bor (List FieldValue))) (later : Entries) (left : ℕ) : Type 0 where
  pub count : left ≡ length (pairs_left current later)
  pub entries : All IsEntry later
