use Rattle.model_rooms.specs.Member.{member_at}
use Rattle.rooms.proofs.MoveLemmas.{no_message, message_of}
use Rattle.rooms.proofs.moves.front.Goals as goal

pub returns-in_err-line : goal.returns-in_err-line
returns-in_err-line c = rw c.from_residual.ensures (no_message (member_at c.args.number c.args.rooms.now).waiting c.in_err-line.ensures)

pub returns : goal.returns
returns c = message_of (member_at c.args.number c.args.rooms.now).waiting c.in_ok-line.line.now _ c.in_ok-line.ensures c.message.ensures
