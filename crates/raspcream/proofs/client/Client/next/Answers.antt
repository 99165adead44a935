use Rattle.model_client.specs.ClientEvent as on
use Rattle.h1_client.specs.Answers.{NeedsNoMemory}
use Rattle.h1_client.specs.State.{State}
use Rattle.raspcream.proofs.AskedLemmas.{has_next, barred, wants}
use Rattle.raspcream.proofs.client.Client.next.Goals as goal

pub returns-clause-stands : goal.returns-clause-stands
returns-clause-stands c = has_next _ _ _ _ _ c.self.view_is c.keep_next.ensures.kind c.keep_next.ensures.shown c.in-Ok.ensures.stands

pub returns-then-not-can_next-clause-refused : goal.returns-then-not-can_next-clause-refused
returns-then-not-can_next-clause-refused c = barred _ _ on.next _ c.self.view_is c.can_next.ensures c.if-not-can_next.true

pub returns-in_default-clause-refused : goal.returns-in_default-clause-refused
returns-in_default-clause-refused c = wants (λ (s : State). NeedsNoMemory s.kept) _ _ c.self.view_is c.in_default.ensures.no_memory_needed
