use Rattle.std.proofs.Common.{sym, ◌∙◌}
use Rattle.vectors_exchanges.proofs.talks.ends.pass_to_server.Goals as goal

-- the question before it says that it may be made
pub advance-requires-clause-can_write : goal.advance-requires-clause-can_write
advance-requires-clause-can_write c = sym (c.can_write.ensures 0) ∙ c.if-not-can_write.false
