use Rattle.std.proofs.Common.{[], sym, ◌∙◌}
use Rattle.vectors_exchanges.proofs.talks.client.send_body.Goals as goal

-- the question before it says that it may be made
pub chunk-requires : goal.chunk-requires
chunk-requires c = record { can_chunk = sym (c.can_chunk.ensures []) ∙ c.if-can_chunk.true }
