use Rattle.std.proofs.Common.{ℕ, Option, ◌∙◌, sym, ap, subst}
use Rattle.model_h1.specs.Deadline.{IsDeadline}
use Rattle.model_state.specs.Deadline.{deadline_by}
use Rattle.h1_connection.specs.EventMeaning.{setting_of}
use Rattle.h1_connection.specs.State.{State}
use Rattle.h1_connection.proofs.DeadlineLemmas.{deadline_traced}
use Rattle.h1_connection.proofs.StepLemmas.{sound_may}
use Rattle.h1_connection.proofs.connection.Connection.deadline.Goals as goal

pub returns-clause-traced : goal.returns-clause-traced
returns-clause-traced c = λ trace stands.
    subst (λ (o : Option ℕ). IsDeadline (setting_of c.args.self.now.settings) trace o)
    (sym (c.deadline.ensures ∙ ap (λ (s : State). deadline_by (setting_of s.settings) s.kept) c.self.view_is))
    (deadline_traced c.args.self.now trace stands)

pub deadline-requires : goal.deadline-requires
deadline-requires c = sound_may c.self.inside.config _ c.self.invariant
