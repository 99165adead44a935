-- Where the names of a map stand: few in one list, more in an `IndexMap` in a block of its own.
use Rattle.std.specs.Prelude.{ℕ, ⊤, bytes_eq}
use Rattle.std.specs.List.{IsDistinct}
use Rattle.http_map.specs.HeaderMap.{Entries, keys}
use Rattle.http_map.specs.Lines.{IsSeen}
use Rattle.http_map.specs.declared.table.Table.{Table}
use Rattle.http_map.specs.declared.table.Table.TheVariants.{Few, Many}

-- the names with their values, in order
abbrev pub listed : Table → Entries
listed (Few lines) = lines.items
listed (Many names) = names.value.entries

-- no name is twice in a list, and the marks of all were seen
pub record IsFew (bits : ℕ) (m : Entries) : Type 0 where
  pub distinct : IsDistinct bytes_eq (keys m)
  pub seen : IsSeen bits (keys m)

-- what holds of a list. An `IndexMap` says itself that no name is twice in it
abbrev pub IsTable : ℕ → Table → Type 0
IsTable bits (Few lines) = IsFew bits lines.items
IsTable bits (Many names) = ⊤
