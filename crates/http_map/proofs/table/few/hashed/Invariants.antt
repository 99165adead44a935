use Rattle.std.proofs.Common.{◌≡◌, take}
use Rattle.http_map.proofs.table.few.hashed.Given as goal

-- the names so far are in, in order
abbrev pub invariant-loop-line : goal.invariant-loop-line
invariant-loop-line l = l.names.entries ≡ take l.line-index l.lines
