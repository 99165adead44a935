use Rattle.std.proofs.Common.{refl, inr}
use Rattle.proxy.proofs.upstream.last_piece.Goals as goal

pub returns-then-is_read_up-clause-hands : goal.returns-then-is_read_up-clause-hands
returns-then-is_read_up-clause-hands c = λ _. inr (refl, c.is_read_up.ensures.read c.if-is_read_up.true)

pub returns-clause-hands : goal.returns-clause-hands
returns-clause-hands c = λ none. inr (refl, none, c.is_read_up.ensures.unread c.if-is_read_up.false)
