use Rattle.model_h1.specs.Event as on
use Rattle.raspcream.proofs.ServedLemmas.{has_made, barred, wants}
use Rattle.raspcream.proofs.server.Server.chunk.Goals as goal

pub returns-clause-stands : goal.returns-clause-stands
returns-clause-stands c = has_made _ _ _ _ _ c.self.view_is c.tell.ensures.kind c.in-Ok.ensures.stands

pub returns-then-not-can_chunk-clause-refused : goal.returns-then-not-can_chunk-clause-refused
returns-then-not-can_chunk-clause-refused c = barred _ _ _ _ c.self.view_is (c.can_chunk.ensures c.args.input.now) c.if-not-can_chunk.true

pub returns-in_default-clause-refused : goal.returns-in_default-clause-refused
returns-in_default-clause-refused c = wants _ _ (on.chunk c.args.input.now) c.self.view_is c.in_default.ensures.no_memory_needed
