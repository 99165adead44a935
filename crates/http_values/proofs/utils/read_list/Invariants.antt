use Rattle.std.proofs.Common.{◌≡◌, List, ◌++◌, map}
use Rattle.http_values.specs.CommaList.{AreRead}
use Rattle.http_values.proofs.utils.read_list.Given as goal

abbrev pub invariant-loop-part : goal.invariant-loop-part
invariant-loop-part g l =
    (added : List g.row.T.Denot)
    × AreRead g.T.FromText.is_text g.T.FromText.reads (map (λ part. part.now) l.yielded) added
    × (l.items.items ≡ l.initial.items.items ++ added)
