use Rattle.rooms.proofs.MoveLemmas.{sent_moved, sent_count}
use Rattle.rooms.proofs.moves.take_off.Goals as goal

pub returns-in-Done-clause-moved : goal.returns-in-Done-clause-moved
returns-in-Done-clause-moved c = λ m room. sent_moved c.args.sent m room c.args.number c.args.rooms.now _ c.in-Done.is c.sent.ensures

pub returns-in-Done-clause-count : goal.returns-in-Done-clause-count
returns-in-Done-clause-count c = sent_count c.args.number c.args.rooms.now _ c.sent.ensures
