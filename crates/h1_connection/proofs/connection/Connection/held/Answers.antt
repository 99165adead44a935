use Rattle.std.proofs.Common.{ℕ, ◌≤◌, length, sym, ap, subst, ◌∙◌}
use Rattle.h1_connection.specs.State.{State}
use Rattle.h1_connection.proofs.GoesOnLemmas.{held_traced, held_by_trace}
use Rattle.h1_connection.proofs.connection.Connection.held.Goals as goal

pub returns-clause-limit : goal.returns-clause-limit
returns-clause-limit c = λ trace stands.
    subst (λ (n : ℕ). n ≤ c.args.self.now.settings.h1_hold_size) (sym (c.len.ensures ∙ ap (λ (s : State). length s.kept.unread) c.self.view_is))
    (held_traced c.args.self.now trace stands)

pub returns-clause-traced : goal.returns-clause-traced
returns-clause-traced c = λ trace past stands is_past.
    c.len.ensures ∙ ap (λ (s : State). length s.kept.unread) c.self.view_is ∙ held_by_trace c.args.self.now trace past stands is_past
