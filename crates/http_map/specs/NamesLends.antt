-- What the names of a map end as, where a `&mut` to the values of one is returned.
use Rattle.std.specs.Prelude.{ℕ, List}
use Rattle.std.specs.Borrow.{Lends, Fml, MutBor}
use Rattle.std.specs.Option.{option_map_or}
use Rattle.std.specs.Prelude.{slice_get}
use Rattle.std.specs.Vec as vec
use Rattle.std.specs.Box as box
use Rattle.indexmap.specs.IndexMap.{with_value_at, set_value_at}
use Rattle.http_header.specs.FieldValue.{FieldValue}
use Rattle.http_map.specs.HeaderMap.{Entry, Entries}
use Rattle.http_map.specs.contracts.values.Values.{the_row as values_row}
use Rattle.http_map.specs.contracts.table.line.Line.{the_row as line_row}
use Rattle.http_map.specs.contracts.table.Names.{the_row}
use Rattle.http_map.specs.contracts.table.Table.{the_row as table_row}
use Rattle.http_map.specs.declared.table.Table.{Table}
use Rattle.http_map.specs.declared.table.Table.TheVariants.{Few, Many}

-- once the borrow r ends, the values of the line are the last ones written through r
abbrev pub line_lends_values : MutBor Entry → MutBor (List FieldValue) → Fml
line_lends_values line r = Lends line_row values_row line r (λ w. (line.now.0, w))

-- other values under the name at an index
abbrev pub with_values_at : Table → ℕ → List FieldValue → Table
with_values_at (Few lines) i w = Few (option_map_or (λ e. vec.with_item lines i (e.0, w)) (slice_get lines.items i) lines)
with_values_at (Many names) i w = Many (box.with_value names (with_value_at names.value i w))

abbrev pub table_lends_values : MutBor Table → ℕ → MutBor (List FieldValue) → Fml
table_lends_values table i r = Lends table_row values_row table r (with_values_at table.now i)

-- once the borrow r ends, the values of the name at the index are the last ones written through r
abbrev pub names_lend_values : MutBor Entries → ℕ → MutBor (List FieldValue) → Fml
names_lend_values names i r = Lends the_row values_row names r (set_value_at names.now i)
