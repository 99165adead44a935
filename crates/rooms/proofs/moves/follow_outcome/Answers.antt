use Rattle.std.proofs.Common.{◌∙◌}
use Rattle.rooms.proofs.MoveLemmas.{frame_moved, done_moved, nothing_moved, ok_count}
use Rattle.rooms.proofs.moves.follow_outcome.Goals as goal

pub returns-in_ok-frame-in-Frame-clause-moved : goal.returns-in_ok-frame-in-Frame-clause-moved
returns-in_ok-frame-in-Frame-clause-moved c =
    frame_moved c.speak.result c.args.event.now c.args.outcome.now _ _ c.args.seat.now.room c.args.number c.args.rooms.now c.speak.new.self c.in-Frame.is
    (c.in_ok-frame-in-Frame.ensures.0 ∙ c.get.ensures.says) c.speak.ensures.spoken

pub returns-in_ok-frame-in-Frame-clause-count : goal.returns-in_ok-frame-in-Frame-clause-count
returns-in_ok-frame-in-Frame-clause-count c =
    ok_count c.speak.result c.args.event.now c.args.outcome.now c.args.seat.now.room c.args.number c.args.rooms.now c.speak.new.self
    (returns-in_ok-frame-in-Frame-clause-moved c)

pub returns-in-Done-clause-moved : goal.returns-in-Done-clause-moved
returns-in-Done-clause-moved c =
    done_moved c.follow_done.result c.args.event.now c.args.outcome.now c.args.seat.now.room c.args.number c.args.rooms.now c.follow_done.new.rooms
    c.in-Done.is c.follow_done.ensures

pub returns-in-Done-clause-count : goal.returns-in-Done-clause-count
returns-in-Done-clause-count c =
    ok_count c.follow_done.result c.args.event.now c.args.outcome.now c.args.seat.now.room c.args.number c.args.rooms.now c.follow_done.new.rooms
    (returns-in-Done-clause-moved c)

pub returns-in_default-clause-moved : goal.returns-in_default-clause-moved
returns-in_default-clause-moved c =
    nothing_moved c.args.event.now c.args.outcome.now c.args.seat.now.room c.args.number c.args.rooms.now c.in_default.not-Frame c.in_default.not-Done
