use Rattle.model_client.specs.ClientEvent as on
use Rattle.h1_client.specs.Requests.{SendsNoPiece}
use Rattle.h1_client.specs.State.{State}
use Rattle.std.proofs.Common.{sym, ◌∙◌}
use Rattle.raspcream.proofs.AskedLemmas.{has_made, barred, wants}
use Rattle.raspcream.proofs.client.Client.chunk.Goals as goal

pub returns-clause-stands : goal.returns-clause-stands
returns-clause-stands c = has_made _ _ _ _ _ c.self.view_is c.tell.ensures.kind c.in-Ok.ensures.stands

pub chunk-requires : goal.chunk-requires
chunk-requires c = record { can_chunk = sym (c.can_chunk.ensures c.args.input.now) ∙ c.if-not-can_chunk.false }

pub returns-then-not-can_chunk-clause-refused : goal.returns-then-not-can_chunk-clause-refused
returns-then-not-can_chunk-clause-refused c = barred _ _ (on.chunk c.args.input.now) _ c.self.view_is (c.can_chunk.ensures c.args.input.now) c.if-not-can_chunk.true

pub returns-in_default-clause-refused : goal.returns-in_default-clause-refused
returns-in_default-clause-refused c = wants (λ (s : State). SendsNoPiece s.kept.sending c.args.input.now) _ _ c.self.view_is c.in_default.ensures.no_memory_needed
