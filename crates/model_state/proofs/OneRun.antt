-- A body in one run, of a stated length or raw: as much of it is passed as was given.
use Rattle.std.proofs.Common.{◌≡◌, ℕ, ◌+◌, ◌-◌, ◌<◌, ◌≤◌, min, false, List, [], ◌∷◌, length, slice_range, Option, Some, None, ◌⊎◌, refl, sym, ap, ◌∙◌, subst, inl, inr, arith}
use Rattle.std.specs.Prelude.{IsSome, unwrap_or}
use Rattle.std.proofs.lemmas.Bool.{cond-true, cond-false, cases_lt, cases_eq, eq-eqb, ne_eqb, le-leb, false≢true}
use Rattle.model_h1.specs.Runs.{Run}
use Rattle.model_h1.specs.Request.{Head}
use Rattle.model_h1.specs.Setting.{Setting}
use Rattle.model_h1.specs.Parse.{Message, content, Stop, next_start, runs_of, frames_of, run_between}
use Rattle.model_h1.specs.Event.{Outcome}
use Rattle.model_h1.specs.Event as on
use Rattle.model_h1.specs.Sums.{Step, taken, head_of, since_head, is_complete}
use Rattle.model_h1.specs.Past.{ParsedStep, steps, current, given_bytes, place_behind, has_chunks, pulled_to, passed}
use Rattle.model_h1.specs.OutcomeTable.{run_left, gave_trailers, stop_outcome, run_outcome, body_outcome, pull_outcome}
use Rattle.model_h1.proofs.PastLemmas.{Legal}
use Rattle.model_h1.proofs.PlaceLemmas.{runs_len, left-within, left-past, left_nothing, between-some, between-none}
use Rattle.model_h1.proofs.StepLemmas.{step, given_bytes-more, given_bytes-head, given_frames-more, quiet, reads, stops, accepts, begins, pulls, step_case}
use Rattle.model_h1.proofs.PulledLemmas.{PullFits, PullsFit, Idle, idle_pulled, pulled_to-more, pulled_to-head, pulled_to-nil, fit-less}
use Rattle.model_h1.proofs.CarriedLemmas.{passed_pulled}
use Rattle.model_h1.proofs.HeldSteps.{quiet_idle, reads_idle, ends_idle, accepts_idle, pull_no_head}
use Rattle.model_state.proofs.Current.{Current}

-- ---- the run between two places

-- its length
between_len : (a b : ℕ) → runs_len (run_between a b) ≡ b - a
between_len a b =
    elim (cases_lt a b) [
      | inl some ↦ ap runs_len (between-some a b some) ∙ omega arith
      | inr none ↦ ap runs_len (between-none a b none) ∙ omega arith
    ]

-- the place behind some of its bytes
one_place : (a b given : ℕ) → given ≤ b - a → place_behind a given (run_between a b) ≡ a + given
unfolding place_behind
one_place a b given fits =
    elim (cases_lt a b) [
      | inr none ↦ let zero_given : a ≡ a + given = omega arith in ap (place_behind a given) (between-none a b none) ∙ zero_given
      | inl some ↦ ap (place_behind a given) (between-some a b some) ∙ elim (cases_eq given 0) [
        | inl zero_given ↦ cond-true _ _ _ (eq-eqb given 0 zero_given) ∙ omega arith
        | inr more ↦ cond-false _ _ _ (ne_eqb given 0 more) ∙ cond-true _ _ _ (le-leb given (b - a) fits)
      ]
    ]

-- what is left of it
pub one_left : (a b given : ℕ) → a + given < b → run_left given (run_between a b) ≡ Some (record { start = a + given; end = b })
one_left a b given more =
    ap (run_left given) (between-some a b (omega arith)) ∙ left-within given (record { start = a; end = b }) [] (omega arith)

-- where all of it was given nothing is
pub none_left : (a b given : ℕ) → b ≤ a + given → run_left given (run_between a b) ≡ None
none_left a b given all =
    elim (cases_lt a b) [
      | inr none ↦ ap (run_left given) (between-none a b none) ∙ left_nothing given
      | inl some ↦ ap (run_left given) (between-some a b some) ∙ left-past given (record { start = a; end = b }) [] (omega arith)
          ∙ left_nothing (given - (b - a))
    ]

-- ---- a body of one run

-- The body isn't in chunks, is one run from its start to a place, and ends nowhere else.
pub record OneRun (m : Message) (end : ℕ) (stop : Stop) : Type 0 where
  pub plain : has_chunks m.reading ≡ false
  pub body : m.body ≡ content (run_between m.body_start end) stop
  pub start : m.body_start ≤ end
  pub ends : (place : ℕ) → next_start (content [] stop) ≡ Some place → place ≡ end

-- where it ends
one_next : (runs runs' : List Run) (stop : Stop) → next_start (content runs stop) ≡ next_start (content runs' stop)
one_next runs runs' stop = cong_stop stop
  where
    cong_stop : (s : Stop) → next_start (content runs s) ≡ next_start (content runs' s)
    cong_stop _ = refl

-- and nowhere else
pub one_ends : (m : Message) (end : ℕ) (stop : Stop) → OneRun m end stop → (place : ℕ) → next_start m.body ≡ Some place → place ≡ end
one_ends m end stop r place e =
    r.ends place (one_next [] (run_between m.body_start end) stop ∙ sym (ap next_start r.body) ∙ e)

-- no less is passed than was given of the run
abbrev Least : Message → ℕ → List Step → Type 0
Least m end t = m.body_start + min (given_bytes t) (end - m.body_start) ≤ pulled_to m t

-- the end of the body is behind all of it
least_end : (m : Message) (end : ℕ) (stop : Stop) (given place : ℕ) (o : Option ℕ) → OneRun m end stop → next_start m.body ≡ o → IsSome o
    → m.body_start + min given (end - m.body_start) ≤ unwrap_or o place
least_end m end stop given place None r e some = absurd (false≢true some)
least_end m end stop given place (Some next) r e some =
    let same = one_ends m end stop r next e in
    let start = r.start in
    omega arith

-- behind a pull
least_pull : (m : Message) (end : ℕ) (stop : Stop) (t : List Step) (o : Outcome) → OneRun m end stop → head_of o ≡ None
    → PullFits m (step on.pull o ∷ t) on.pull o → Least m end t → Least m end (step on.pull o ∷ t)
least_pull m end stop t (on.bytes more) r none fits old =
    let s = step on.pull (on.bytes more) in
    let given = given_bytes (s ∷ t) in
    let len = ap runs_len (ap runs_of r.body) ∙ between_len m.body_start end in
    let short : given ≤ end - m.body_start = omega (arith, fits, len) in
    let place = pulled_to-more m s t none ∙ ap (place_behind m.body_start given) (ap runs_of r.body) ∙ one_place m.body_start end given short in
    omega (arith, place)
least_pull m end stop t (on.trailers lines) r none fits old =
    let s = step on.pull (on.trailers lines) in
    let place = pulled_to-more m s t none in
    subst (λ n. m.body_start + min (given_bytes (s ∷ t)) (end - m.body_start) ≤ n) (sym place)
    (least_end m end stop (given_bytes (s ∷ t)) (pulled_to m t) (next_start m.body) r refl fits)
least_pull m end stop t on.body_ended r none fits old =
    let s = step on.pull on.body_ended in
    let place = pulled_to-more m s t none in
    subst (λ n. m.body_start + min (given_bytes (s ∷ t)) (end - m.body_start) ≤ n) (sym place)
    (least_end m end stop (given_bytes (s ∷ t)) (pulled_to m t) (next_start m.body) r refl fits)
least_pull m end stop t (on.frame f) r none fits old =
    let s = step on.pull (on.frame f) in
    let count = given_frames-more s t none in
    let no_frames = ap length (ap frames_of r.body) in
    absurd (omega (arith, fits, count, no_frames))
least_pull m end stop t on.pending r none fits old =
    let s = step on.pull on.pending in
    let place : pulled_to m (s ∷ t) ≡ pulled_to m t = pulled_to-more m s t none
    ∙ ap (λ o. unwrap_or o (pulled_to m t)) (cond-false (has_chunks m.reading) _ _ r.plain) in
    omega (arith, given_bytes-more s t none)
least_pull m end stop t o r none fits old =
    let s = step on.pull o in
    let place : pulled_to m (s ∷ t) ≡ pulled_to m t = pulled_to-more m s t none in
    omega (arith, given_bytes-more s t none)

-- behind an idle step
least_idle : (m : Message) (end : ℕ) (s : Step) (t : List Step) → Idle s → PullsFit m (s ∷ t) → (PullsFit m t → Least m end t) → Least m end (s ∷ t)
least_idle m end s t idle fits old =
    let least = old (fit-less m s t idle.head fits).1 in
    omega (arith, idle_pulled m s t idle, given_bytes-more s t idle.head, idle.bytes)

-- behind every legal past
least : (setting : Setting) (past : List ParsedStep) (m : Message) (end : ℕ) (stop : Stop) → Legal setting past → OneRun m end stop
    → PullsFit m (steps past)
    → Least m end (steps past)
unfolding since_head
least setting [] m end stop l r fits = omega (arith, pulled_to-nil m)
least setting (x ∷ before) m end stop l r fits =
    let t = steps before in
    let old = least setting before m end stop l.3 r in
    elim (step_case setting before x.step.event x.step.outcome l.1 l.2) [
      | quiet q ↦ least_idle m end x.step t (quiet_idle before x.step q) fits old
      | reads q ↦ least_idle m end x.step t (reads_idle setting before x.step q) fits old
      | stops q ↦ least_idle m end x.step t (ends_idle before x.step q) fits old
      | accepts q ↦ least_idle m end x.step t (accepts_idle before x.step q) fits old
      | begins b ↦ omega (arith, pulled_to-head m x.step t b.head (ap head_of b.outcome), given_bytes-head x.step t b.head (ap head_of b.outcome))
      | pulls p ↦
          let o = x.step.outcome in
          let none = ap head_of p.outcome ∙ pull_no_head t (current before) in
          let both = fit-less m x.step t none fits in
          let same : step on.pull o ≡ x.step = λ i. record { event = sym p.event i; outcome = o } in
          let here = subst (λ e. PullFits m (step e o ∷ t) e o) p.event both.0 in
          subst (λ s. Least m end (s ∷ t)) same (least_pull m end stop t o r none here (old both.1))
    ]

-- ---- the current message

-- As much is passed as was given, and no more than there is.
pub one_passed : (setting : Setting) (past : List ParsedStep) (m : Message) (h : Head) (end : ℕ) (stop : Stop) → Legal setting past
    → Current setting past m h
    → OneRun m end stop → is_complete (steps past) ≡ false → (next_start m.body ≡ Some end) ⊎ (end ≡ length (taken (steps past)))
    → (passed past ≡ m.body_start + given_bytes (steps past)) × (passed past ≤ end)
one_passed setting past m h end stop l c r open_yet upto =
    let t = steps past in
    let g = given_bytes t in
    let place = c.passed_is ∙ passed_pulled past m open_yet in
    let lower = least setting past m end stop l r c.holds.pulls_fit in
    let len = ap runs_len (ap runs_of r.body) ∙ between_len m.body_start end in
    let fits : g ≤ end - m.body_start = omega (arith, c.holds.bytes_fit, len) in
    let start = r.start in
    let within : pulled_to m t ≤ end = elim upto [
      | inl e ↦ c.holds.before_next end e
      | inr e ↦ omega (arith, c.holds.within)
    ] in
    elim (cases_lt (m.body_start + g) end) [
      | inr all ↦ (omega arith, omega arith)
      | inl more ↦
          let runs = ap (run_left g) (ap runs_of r.body) ∙ one_left m.body_start end g more in
          let upper = c.holds.before_left (record { start = m.body_start + g; end = end }) runs in
          (omega (arith, upper), omega arith)
    ]

-- the bytes that are left are given
pub one_gives : (past : List ParsedStep) (m : Message) (end : ℕ) (stop : Stop) → OneRun m end stop
    → passed past ≡ m.body_start + given_bytes (steps past)
    → passed past < end → pull_outcome (steps past) (Some m) ≡ on.bytes (slice_range (taken (steps past)) (passed past) end)
one_gives past m end stop r place more =
    let t = steps past in
    ap (body_outcome t) r.body ∙ ap (run_outcome t stop) (one_left m.body_start end (given_bytes t) (omega arith))
    ∙ ap (λ n. on.bytes (slice_range (taken t) n end)) (sym place)

-- where none is left the body stops
pub one_stops : (past : List ParsedStep) (m : Message) (end : ℕ) (stop : Stop) → OneRun m end stop
    → passed past ≡ m.body_start + given_bytes (steps past)
    → end ≤ passed past → pull_outcome (steps past) (Some m) ≡ stop_outcome (gave_trailers (steps past)) stop
one_stops past m end stop r place all =
    let t = steps past in
    ap (body_outcome t) r.body ∙ ap (run_outcome t stop) (none_left m.body_start end (given_bytes t) (omega arith))
