-- A `&mut` to a value inside a map: how the map stands when it ends.
use Rattle.std.specs.Prelude.{ℕ, zero, suc, List, [], ◌∷◌, drop, Option}
use Rattle.std.specs.Borrow.{Lends, LendsIf, Fml, MutBor}
use Rattle.http_header.specs.FieldValue.{FieldValue}
use Rattle.http_header.specs.contracts.value.HeaderValue.{the_row as value_row}
use Rattle.http_map.specs.HeaderMap.{Entries, set_first}
use Rattle.http_map.specs.contracts.map.HeaderMap.{the_row}

-- another value in place of the first under the name at an index
abbrev pub set_first_at : Entries → ℕ → FieldValue → Entries
set_first_at [] i value = []
set_first_at (e ∷ m) zero value = (e.0, value ∷ drop 1 e.1) ∷ m
set_first_at (e ∷ m) (suc i) value = e ∷ set_first_at m i value

-- the values of the name at an index
abbrev pub values_at : Entries → ℕ → List FieldValue
values_at [] i = []
values_at (e ∷ m) zero = e.1
values_at (e ∷ m) (suc i) = values_at m i

-- when r ends, what was last written through it is the first value of the name at the index
abbrev pub lends_first_at : MutBor Entries → ℕ → MutBor FieldValue → Fml
lends_first_at m i r = Lends the_row value_row m r (set_first_at m.now i)

-- when r ends, what was last written through it is the first value of the name. Without an r nothing changes
abbrev pub lends_first : MutBor Entries → List ℕ → Option (MutBor FieldValue) → Fml
lends_first m name r = LendsIf the_row value_row m r (set_first m.now name) m.now
