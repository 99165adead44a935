use Rattle.std.proofs.Common.{List, ap, ◌∙◌}
use Rattle.model_rooms.specs.Member.{Member}
use Rattle.rooms.specs.Moves.{ended, closes_by}
use Rattle.rooms.proofs.moves.follow_sent.Goals as goal

pub returns : goal.returns
returns c = λ m.
    c.follow_end.ensures
    ∙ ap (λ (l : List Member). ended (closes_by c.args.seat.now) c.args.number l) (c.take_off.ensures.moved m c.args.seat.now.room)
