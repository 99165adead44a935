use Rattle.std.proofs.Common.{◌+◌, arith, sym, subst, Vec, Global}
use Rattle.rooms.specs.Rows.{others_hear}
use Rattle.rooms.specs.declared.row.Row.{Row}
use Rattle.rooms.proofs.RowLists.{ChangedBelow, changed_all, heard_more, unheard}
use Rattle.rooms.proofs.rooms.tell.Goals as goal
use Rattle.rooms.proofs.rooms.tell.Goals.{then-index-number+in_ok-hear, else-index-number}

pub loop-index-preserved : goal.loop-index-preserved
loop-index-preserved c = elim c.if-index-number.branch [
  | then-index-number+in_ok-hear w ↦
      subst (λ (v : Vec Row Global). ChangedBelow (c.loop-index.index + 1) (others_hear c.args.number c.args.room.now c.args.lines.now) c.args.rows.now.items v.items)
      (sym w.rows-is)
      (heard_more c.loop-index.index c.args.number c.args.room.now c.args.lines.now c.args.rows.now.items c.loop-index.rows.items
      w.index_mut.result.now w.hear.new.row (omega arith) c.loop-index.invariant w.index_mut.ensures.value w.if-index-number.true w.in_ok-hear.ensures)
  | else-index-number w ↦
      subst (λ (v : Vec Row Global). ChangedBelow (c.loop-index.index + 1) (others_hear c.args.number c.args.room.now c.args.lines.now) c.args.rows.now.items v.items)
      (sym w.rows-is)
      (unheard c.loop-index.index c.args.number c.args.room.now c.args.lines.now c.args.rows.now.items c.loop-index.rows.items c.loop-index.invariant w.if-index-number.false)
]

pub returns-clause-told : goal.returns-clause-told
returns-clause-told c = changed_all _ _ _ c.loop-index.index (omega arith) c.loop-index.invariant
