use Rattle.std.proofs.Common.{◌≡◌, ◌≤◌, ℕ, List, ◌++◌, length, ap, ◌∙◌, subst}
use Rattle.model_state.specs.Runs.{first_segment, IsFirstSegment}
use Rattle.h1_connection.specs.State.{State}
use Rattle.h1_connection.proofs.MarkLemmas.{stretch_first, stretch_some}
use Rattle.h1_connection.proofs.GoesOnLemmas.{front_traced}
use Rattle.h1_connection.proofs.connection.Connection.front.Goals as goal

pub returns-clause-value : goal.returns-clause-value
returns-clause-value c = c.front.ensures.value ∙ ap (λ (s : State). first_segment s.marks s.kept.buffered) c.self.view_is

pub returns-clause-traced : goal.returns-clause-traced
returns-clause-traced c = λ trace stands marked.
    c.front.ensures.value ∙ ap (λ (s : State). first_segment s.marks s.kept.buffered) c.self.view_is ∙ front_traced c.args.self.now trace stands marked

pub returns-clause-segment : goal.returns-clause-segment
returns-clause-segment c = subst (λ (s : State). IsFirstSegment s.marks s.kept.buffered c.front.result.now) c.self.view_is c.front.ensures.first

pub returns-clause-first : goal.returns-clause-first
returns-clause-first c =
    subst (λ (s : State). (rest : List ℕ) × (c.front.result.now ++ rest ≡ s.kept.buffered)) c.self.view_is (stretch_first _ _ c.front.ensures.stretch)

pub returns-clause-fits : goal.returns-clause-fits
returns-clause-fits c = subst (λ (s : State). length c.front.result.now ≤ length s.kept.buffered) c.self.view_is c.front.ensures.stretch.fits

pub returns-clause-some : goal.returns-clause-some
returns-clause-some c =
    subst (λ (s : State). length c.front.result.now ≡ 0 → length s.kept.buffered ≡ 0) c.self.view_is (stretch_some _ _ c.front.ensures.stretch)
