use Rattle.std.proofs.Common.{List, ap, ◌∙◌}
use Rattle.model_rooms.specs.Member.{Member}
use Rattle.rooms.specs.Moves.{ended, closes_by}
use Rattle.rooms.proofs.moves.follow.Goals as goal

pub returns : goal.returns
returns c =
    c.follow_end.ensures ∙ ap (λ (l : List Member). ended (closes_by c.args.seat.now) c.args.number l) c.in_ok-follow_outcome.ensures.moved
