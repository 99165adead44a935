use Rattle.model_client.specs.ClientEvent as on
use Rattle.h1_client.specs.Bodies.{IsLightPull}
use Rattle.h1_client.specs.State.{State}
use Rattle.raspcream.proofs.AskedLemmas.{has_pulled, barred, wants}
use Rattle.raspcream.proofs.client.Client.pull.Goals as goal

pub returns-clause-stands : goal.returns-clause-stands
returns-clause-stands c = has_pulled _ _ _ _ _ c.self.view_is c.keep.ensures.kind c.keep.ensures.shown c.in-Ok.ensures.stands

pub returns-then-not-can_pull-clause-refused : goal.returns-then-not-can_pull-clause-refused
returns-then-not-can_pull-clause-refused c = barred _ _ on.pull _ c.self.view_is c.can_pull.ensures c.if-not-can_pull.true

pub returns-in_default-clause-refused : goal.returns-in_default-clause-refused
returns-in_default-clause-refused c = wants (λ (s : State). IsLightPull s.kept) _ _ c.self.view_is c.in_default.ensures.no_memory_needed
