use Rattle.rooms.proofs.KeptLemmas.{fresh_stands_with}
use Rattle.rooms.proofs.seat.Seat.new.Goals as goal

pub returns-clause-stands : goal.returns-clause-stands
returns-clause-stands c = fresh_stands_with c.args.config c.new.result c.new.ensures
