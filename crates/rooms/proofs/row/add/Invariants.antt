use Rattle.std.proofs.Common.{◌≡◌, ◌++◌, take}
use Rattle.rooms.proofs.row.add.Given as goal

-- the lines so far are added
abbrev pub invariant-loop-line : goal.invariant-loop-line
invariant-loop-line l = l.waiting.items ≡ l.initial.waiting.items ++ take l.line-index l.lines
