-- What the iterators of a map's names have left.
use Rattle.std.specs.Slice.Iter.{iter_rest}
use Rattle.std.specs.Vec.Iter.{into_iter_items}
use Rattle.http_map.specs.HeaderMap.{Entries}
use Rattle.http_map.specs.declared.table.iter.Shown.{Shown}
use Rattle.http_map.specs.declared.table.iter.Shown.TheVariants.{Few as FewShown, Many as ManyShown}
use Rattle.http_map.specs.declared.table.iter.Taken.{Taken}
use Rattle.http_map.specs.declared.table.iter.Taken.TheVariants.{Few as FewTaken, Many as ManyTaken}

-- those that are left of the names that are shown
abbrev pub shown : Shown → Entries
shown (FewShown lines) = iter_rest lines
shown (ManyShown names) = names

-- those that are left of the names that are taken out
abbrev pub taken : Taken → Entries
taken (FewTaken lines) = into_iter_items lines
taken (ManyTaken names) = names
