use Rattle.rooms.proofs.MoveLemmas.{accept_done, send_done, nothing_done}
use Rattle.rooms.proofs.moves.follow_done.Goals as goal

pub returns-in-Accept : goal.returns-in-Accept
returns-in-Accept c =
    accept_done c.join.result c.args.event.now _ c.args.seat.now.room c.args.number c.args.rooms.now c.join.new.rooms c.in-Accept.is c.join.ensures

pub returns-in-Send : goal.returns-in-Send
returns-in-Send c = send_done c.args.event.now _ c.args.seat.now.room c.args.number c.args.rooms.now c.sent.new.self c.in-Send.is c.sent.ensures

pub returns-in_default : goal.returns-in_default
returns-in_default c =
    nothing_done c.args.event.now c.args.seat.now.room c.args.number c.args.rooms.now c.in_default.not-Accept c.in_default.not-Send
