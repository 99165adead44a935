-- Where the values of one name stand: a single one by itself, more in a vector in a block of its own.
use Rattle.std.specs.Prelude.{List, [], ◌∷◌}
use Rattle.std.specs.Borrow.{Lends, Fml, MutBor}
use Rattle.std.specs.Vec as vec
use Rattle.std.specs.Box as box
use Rattle.http_header.specs.FieldValue.{FieldValue}
use Rattle.http_header.specs.contracts.value.HeaderValue.{the_row as value_row}
use Rattle.http_map.specs.declared.values.Kept.{Kept}
use Rattle.http_map.specs.declared.values.Kept.TheVariants.{One, More}
use Rattle.http_map.specs.contracts.values.Kept.{the_row}

-- the values, in order
abbrev pub listed : Kept → List FieldValue
listed (One value) = value ∷ []
listed (More values) = values.value.items

-- another value in place of the first
abbrev pub with_first : Kept → FieldValue → Kept
with_first (One value) w = One w
with_first (More values) w = More (box.with_value values (vec.with_item values.value 0 w))

-- once the borrow r ends, the first value is the last one written through r
abbrev pub kept_lends_first : MutBor Kept → MutBor FieldValue → Fml
kept_lends_first k r = Lends the_row value_row k r (with_first k.now)
