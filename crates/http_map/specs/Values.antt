-- What the values of one name end as, where a `&mut` to the first is returned.
use Rattle.std.specs.Prelude.{List, ◌∷◌, drop}
use Rattle.std.specs.Borrow.{Lends, Fml, MutBor}
use Rattle.http_header.specs.FieldValue.{FieldValue}
use Rattle.http_header.specs.contracts.value.HeaderValue.{the_row as value_row}
use Rattle.http_map.specs.contracts.values.Values.{the_row}

-- once the borrow r ends, the first value is the last one written through r
abbrev pub lends_first_of : MutBor (List FieldValue) → MutBor FieldValue → Fml
lends_first_of values r = Lends the_row value_row values r (λ w. w ∷ drop 1 values.now)
