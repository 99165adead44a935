use Rattle.model_h1.specs.Event as on
use Rattle.raspcream.proofs.ServedLemmas.{has_framed, barred_frame, wants}
use Rattle.raspcream.proofs.server.Server.frame.Goals as goal

pub returns-clause-stands : goal.returns-clause-stands
returns-clause-stands c = has_framed _ _ _ _ _ c.self.view_is c.keep_pulled_frame.ensures.kind c.keep_pulled_frame.ensures.shown c.in-Ok.ensures.stands

pub returns-then-not-can_pull_frame-clause-refused : goal.returns-then-not-can_pull_frame-clause-refused
returns-then-not-can_pull_frame-clause-refused c = barred_frame _ _ _ c.self.view_is c.can_pull_frame.ensures.value c.if-not-can_pull_frame.true

pub returns-in_default-clause-refused : goal.returns-in_default-clause-refused
returns-in_default-clause-refused c = wants _ _ on.pull c.self.view_is c.in_default.ensures.no_memory_needed
