use Rattle.rooms.specs.Rows.{others_hear}
use Rattle.rooms.proofs.rooms.tell.Given as goal
use Rattle.rooms.proofs.RowLists.{ChangedBelow}

-- the rows below the index are changed, and the others are as they were
abbrev pub invariant-loop-index : goal.invariant-loop-index
invariant-loop-index l = ChangedBelow l.index (others_hear l.number l.room l.lines) l.initial.rows.items l.rows.items
