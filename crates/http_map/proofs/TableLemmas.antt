-- Other values under a name, in either of the tables.
use Rattle.std.proofs.Common.{◌≡◌, ℕ, List, Option, Some, None, refl, sym, subst}
use Rattle.std.specs.Prelude.{slice_get}
use Rattle.std.specs.Option.{option_map_or}
use Rattle.std.specs.Vec as vec
use Rattle.indexmap.specs.Layout.{set_value_at}
use Rattle.http_header.specs.FieldValue.{FieldValue}
use Rattle.http_map.specs.declared.table.Table.{Table}
use Rattle.http_map.specs.declared.table.Table.TheVariants.{Few, Many}
use Rattle.http_map.specs.HeaderMap.{Entry}
use Rattle.http_map.specs.Names.{listed, IsTable, IsFew}
use Rattle.http_map.specs.NamesLends.{with_values_at}
use Rattle.http_map.proofs.LineLemmas.{set_value_at-entry, set_value_at-past}
use Rattle.http_map.proofs.SeenLemmas.{IsFew-set_value_at}

-- the list that a table with other values is
pub listed-with_values_at : (t : Table) (i : ℕ) (w : List FieldValue) → listed (with_values_at t i w) ≡ set_value_at (listed t) i w
listed-with_values_at (Few lines) i w = by (slice_get lines.items i) refl
  where
    by : (found : Option Entry) → slice_get lines.items i ≡ found → (option_map_or (λ (e : Entry). vec.with_item lines i (e.0, w)) found lines).items ≡ set_value_at lines.items i w
    by None is = set_value_at-past lines.items i w is
    by (Some e) is = set_value_at-entry lines.items i e w is
listed-with_values_at (Many names) i w = refl

pub IsTable-with_values_at : (bits : ℕ) (t : Table) (i : ℕ) (w : List FieldValue) → IsTable bits t → IsTable bits (with_values_at t i w)
IsTable-with_values_at bits (Few lines) i w few = subst (IsFew bits) (sym (listed-with_values_at (Few lines) i w)) (IsFew-set_value_at bits lines.items i w few)
IsTable-with_values_at bits (Many names) i w is = tt
