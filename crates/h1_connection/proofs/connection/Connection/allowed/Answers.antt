use Rattle.std.proofs.Common.{Bool, ◌∙◌, ap, sym, subst}
use Rattle.std.specs.Prelude.{IsTrue, ◌↔◌}
use Rattle.model_h1.specs.Trace as traces
use Rattle.model_state.specs.Local.{allowed_by}
use Rattle.h1_connection.specs.EventMeaning.{setting_of, event_of}
use Rattle.h1_connection.specs.State.{State}
use Rattle.h1_connection.proofs.GoesOnLemmas.{allowed_traced}
use Rattle.h1_connection.proofs.connection.Connection.allowed.Goals as goal

pub returns-clause-traced : goal.returns-clause-traced
returns-clause-traced c = λ trace stands.
    subst (λ (b : Bool). IsTrue b ↔ traces.IsAllowed (setting_of c.args.self.now.settings) trace (event_of c.args.event.now))
    (sym (c.allowed.ensures ∙ ap (λ (s : State). allowed_by (setting_of s.settings) s.kept (event_of c.args.event.now)) c.self.view_is))
    (allowed_traced c.args.self.now (event_of c.args.event.now) trace stands)
