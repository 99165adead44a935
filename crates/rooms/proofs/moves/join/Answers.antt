use Rattle.std.proofs.Common.{Some, sym, ap, ◌∙◌}
use Rattle.rooms.proofs.MoveLemmas.{no_room, in_its_room}
use Rattle.rooms.proofs.moves.join.Goals as goal

pub returns-in_default : goal.returns-in_default
returns-in_default c = no_room c.args.number _ _ (sym (rw c.in_default.is at c.room.ensures))

pub returns : goal.returns
returns c =
    c.join.ensures
    ∙ in_its_room c.args.number c.args.seat.now.room c.in_ok-room.room _ (sym (rw c.in-Some.is at c.room.ensures) ∙ ap Some (sym c.in_ok-room.ensures.cases))
