use Rattle.std.proofs.Common.{◌≡◌, ◌≤◌, ℕ, List, ◌++◌, length, subst}
use Rattle.model_state.specs.Runs.{first_segment}
use Rattle.h1_connection.specs.State.{State}
use Rattle.h1_connection.proofs.MarkLemmas.{stretch_first, stretch_some}
use Rattle.h1_connection.proofs.connection.Connection.stretch.Goals as goal

pub returns-clause-first : goal.returns-clause-first
returns-clause-first c =
    subst (λ (s : State). (rest : List ℕ) × (c.stretch.result.now ++ rest ≡ s.kept.buffered)) c.self.view_is (stretch_first _ _ c.stretch.ensures.stretch)

pub returns-clause-fits : goal.returns-clause-fits
returns-clause-fits c = subst (λ (s : State). length c.stretch.result.now ≤ length s.kept.buffered) c.self.view_is c.stretch.ensures.stretch.fits

pub returns-clause-some : goal.returns-clause-some
returns-clause-some c =
    subst (λ (s : State). length c.stretch.result.now ≡ 0 → length s.kept.buffered ≡ 0) c.self.view_is (stretch_some _ _ c.stretch.ensures.stretch)

pub returns-clause-segment : goal.returns-clause-segment
returns-clause-segment c =
    subst (λ (s : State). length (first_segment s.marks s.kept.buffered) ≤ length c.stretch.result.now) c.self.view_is c.stretch.ensures.segment
