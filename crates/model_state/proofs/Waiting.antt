-- The runs of the bytes that wait, behind each kind of step.
use Rattle.std.proofs.Common.{◌≡◌, ◌+◌, List, [], ◌∷◌, ◌++◌, length, refl, sym, ap, ◌∙◌, append-nil, length-append}
use Rattle.model_h1.specs.Setting.{Setting}
use Rattle.model_h1.specs.Sums.{Step, step_written, written}
use Rattle.model_h1.proofs.WrittenLemmas.{written-cons}
use Rattle.model_state.specs.Runs.{runs_behind}
use Rattle.model_state.specs.Marks.{step_runs, body_runs, buffered_runs}
use Rattle.model_state.proofs.Behind.{runs_behind_more, runs_behind-append}

runs-cons : (setting : Setting) (s : Step) (before : List Step) → body_runs setting (s ∷ before) ≡ body_runs setting before ++ step_runs setting before s.event s.outcome
unfolding body_runs
runs-cons setting s before = refl

-- one that gives nothing: the runs it adds stand behind the others
pub runs_added : (setting : Setting) (s : Step) (before : List Step) → step_written s.outcome ≡ []
    → buffered_runs setting (s ∷ before)
    ≡ buffered_runs setting before ++ runs_behind (length (written before)) (step_runs setting before s.event s.outcome)
runs_added setting s before none =
    let same : written (s ∷ before) ≡ written before = written-cons s before ∙ ap (λ l. written before ++ l) none ∙ append-nil (written before) in
    (λ i. runs_behind (length (same i)) (runs-cons setting s before i))
    ∙ runs_behind-append (length (written before)) (body_runs setting before) (step_runs setting before s.event s.outcome)

-- one that adds no body bytes either: they stay
pub runs_quiet : (setting : Setting) (s : Step) (before : List Step) → step_written s.outcome ≡ [] → step_runs setting before s.event s.outcome ≡ []
    → buffered_runs setting (s ∷ before) ≡ buffered_runs setting before
unfolding runs_behind
runs_quiet setting s before none silent =
    runs_added setting s before none ∙ ap (λ l. buffered_runs setting before ++ runs_behind (length (written before)) l) silent ∙ append-nil (buffered_runs setting before)

-- a write lets the first bytes go
pub runs_given : (setting : Setting) (s : Step) (before : List Step) → step_runs setting before s.event s.outcome ≡ []
    → buffered_runs setting (s ∷ before) ≡ runs_behind (length (step_written s.outcome)) (buffered_runs setting before)
runs_given setting s before silent =
    let runs : body_runs setting (s ∷ before) ≡ body_runs setting before = runs-cons setting s before ∙ ap (λ l. body_runs setting before ++ l) silent ∙ append-nil (body_runs setting before) in
    let size : length (written (s ∷ before)) ≡ length (written before) + length (step_written s.outcome) =
    ap length (written-cons s before) ∙ length-append (written before) (step_written s.outcome) in
    (λ i. runs_behind (size i) (runs i)) ∙ sym (runs_behind_more (length (written before)) (length (step_written s.outcome)) (body_runs setting before))
