use Rattle.model_h1.specs.Event as on
use Rattle.raspcream.proofs.ServedLemmas.{has_pulled, barred, wants}
use Rattle.raspcream.proofs.server.Server.pull.Goals as goal

pub returns-clause-stands : goal.returns-clause-stands
returns-clause-stands c = has_pulled _ _ _ _ _ c.self.view_is c.keep.ensures.kind c.keep.ensures.shown c.in-Ok.ensures.stands

pub returns-then-not-can_pull-clause-refused : goal.returns-then-not-can_pull-clause-refused
returns-then-not-can_pull-clause-refused c = barred _ _ _ _ c.self.view_is c.can_pull.ensures.value c.if-not-can_pull.true

pub returns-in_default-clause-refused : goal.returns-in_default-clause-refused
returns-in_default-clause-refused c = wants _ _ on.pull c.self.view_is c.in_default.ensures.no_memory_needed
