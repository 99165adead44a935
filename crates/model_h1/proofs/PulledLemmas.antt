-- How far pulls pass the current message: never behind what was taken or what is left of it, and never back.
use Rattle.std.proofs.Common.{◌≡◌, ℕ, ◌≤◌, true, false, cond, List, [], ◌∷◌, length, Option, Some, None, refl, sym, ap, ◌∙◌, subst, subst₂, arith, length-append}
use Rattle.std.specs.Prelude.{is_some, unwrap_or, IsSome, ⊤}
use Rattle.std.specs.List.{list_any}
use Rattle.std.proofs.lemmas.Bool.{cond-true, cond-false, true≢false, false≢true, or_parts}
use Rattle.model_h1.specs.Request.{Head}
use Rattle.model_h1.specs.Runs.{cut_runs}
use Rattle.model_h1.specs.Parse.{Message, next_start, runs_of, frames_of}
use Rattle.model_h1.specs.Event.{Event, Outcome}
use Rattle.model_h1.specs.Event as on
use Rattle.model_h1.specs.Sums.{Step, taken, is_pull, head_of, was_pulled}
use Rattle.model_h1.specs.Past.{step_bytes, step_frames, given_bytes, given_frames, place_behind, frame_end, has_chunks, pulled_place, pulled_to}
use Rattle.model_h1.proofs.RunLemmas.{IsOrdered}
use Rattle.model_h1.proofs.PlaceLemmas.{runs_len, left_within, IsBeforeLeft, cut_len, cut_place, cut_before, frame_end_within, frame_end-append}
use Rattle.model_h1.proofs.BodySteps.{is_frames, Opens, Lies}
use Rattle.model_h1.proofs.StepLemmas.{since_head-more, given_bytes-more, given_frames-more}

-- ---- how far pulls pass

-- behind a head
pub pulled_to-head : (m : Message) (s : Step) (before : List Step) (h : Head) → head_of s.outcome ≡ Some h → pulled_to m (s ∷ before) ≡ m.body_start
unfolding pulled_to
pulled_to-head m s before h some = cond-true _ _ _ (ap is_some some)

-- behind another step
pub pulled_to-more : (m : Message) (s : Step) (before : List Step) → head_of s.outcome ≡ None
    → pulled_to m (s ∷ before) ≡ unwrap_or (pulled_place m (s ∷ before) s.event s.outcome) (pulled_to m before)
unfolding pulled_to
pulled_to-more m s before none = cond-false _ _ _ (ap is_some none)

-- with no step
pub pulled_to-nil : (m : Message) → pulled_to m [] ≡ m.body_start
unfolding pulled_to
pulled_to-nil m = refl

-- what is no pull passes nothing
not_pulled : (m : Message) (trace : List Step) (e : Event) (o : Outcome) → is_pull e ≡ false → pulled_place m trace e o ≡ None
not_pulled m trace on.pull o no_pull = absurd (true≢false no_pull)
not_pulled m trace _ o no_pull = refl

-- ---- what pulls gave is there

-- what was given by a pull is part of the message as it is parsed now
abbrev pub PullFits : Message → List Step → Event → Outcome → Type 0
PullFits m trace on.pull (on.bytes more) = given_bytes trace ≤ runs_len (runs_of m.body)
PullFits m trace on.pull (on.trailers lines) = IsSome (next_start m.body)
PullFits m trace on.pull on.body_ended = IsSome (next_start m.body)
PullFits m trace on.pull (on.frame f) = given_frames trace ≤ length (frames_of m.body)
PullFits m trace _ _ = ⊤

-- of a step that hands out no head
abbrev pub Behind : Option Head → Type 0 → Type 0
Behind None P = P
Behind (Some h) P = ⊤

-- each pull behind the head fits
unfoldable pub PullsFit : Message → List Step → Type 0
PullsFit m [] = ⊤
PullsFit m (s ∷ before) = Behind (head_of s.outcome) (PullFits m (s ∷ before) s.event s.outcome × PullsFit m before)

-- behind a head
pub fit-head : (m : Message) (s : Step) (before : List Step) (h : Head) → head_of s.outcome ≡ Some h → PullsFit m (s ∷ before)
unfolding PullsFit
fit-head m s before h some = subst (λ o. Behind o (PullFits m (s ∷ before) s.event s.outcome × PullsFit m before)) (sym some) tt

-- behind another step
pub fit-more : (m : Message) (s : Step) (before : List Step) → head_of s.outcome ≡ None → PullFits m (s ∷ before) s.event s.outcome
    → PullsFit m before
    → PullsFit m (s ∷ before)
unfolding PullsFit
fit-more m s before none here others =
    subst (λ o. Behind o (PullFits m (s ∷ before) s.event s.outcome × PullsFit m before)) (sym none) (here, others)

-- and what that says of the step and of those before it
pub fit-less : (m : Message) (s : Step) (before : List Step) → head_of s.outcome ≡ None → PullsFit m (s ∷ before)
    → PullFits m (s ∷ before) s.event s.outcome × PullsFit m before
unfolding PullsFit
fit-less m s before none x = subst (λ o. Behind o (PullFits m (s ∷ before) s.event s.outcome × PullsFit m before)) none x

-- with no step
pub fit-nil : (m : Message) → PullsFit m []
unfolding PullsFit
fit-nil m = tt

-- what is no pull fits
not_pull_fits : (m : Message) (trace : List Step) (e : Event) (o : Outcome) → is_pull e ≡ false → PullFits m trace e o
not_pull_fits m trace on.pull o no_pull = absurd (true≢false no_pull)
not_pull_fits m trace _ o no_pull = tt

-- ---- a message that grows

-- a message whose body was open, and the same with more bytes
pub record Grown (len : ℕ) (m n : Message) : Type 0 where
  pub reading : m.reading ≡ n.reading
  pub body_start : m.body_start ≡ n.body_start
  pub body : Opens len m.body n.body

-- a pull passes as much of the grown one
place_grows : (len from upto : ℕ) (m n : Message) (trace : List Step) (e : Event) (o : Outcome) → Grown len m n → IsOrdered from upto (runs_of n.body)
    → PullFits m trace e o → (pulled_place m trace e o ≡ pulled_place n trace e o) × PullFits n trace e o
place_grows len from upto m n trace on.pull (on.bytes more) g ordered fits =
    let cut = subst (λ rs. given_bytes trace ≤ runs_len rs) g.body.runs fits in
    let less = cut_len len (runs_of n.body) in (
      ap Some ((λ i. place_behind (g.body_start i) (given_bytes trace) (g.body.runs i))
          ∙ cut_place len n.body_start from upto (given_bytes trace) (runs_of n.body) ordered cut),
      omega arith,
    )
place_grows len from upto m n trace on.pull (on.trailers lines) g ordered fits = absurd (false≢true (sym (ap is_some g.body.next) ∙ fits))
place_grows len from upto m n trace on.pull on.body_ended g ordered fits = absurd (false≢true (sym (ap is_some g.body.next) ∙ fits))
place_grows len from upto m n trace on.pull (on.frame f) g ordered fits =
    let rest = g.body.frames.0 in
    let all = g.body.frames.1 in
    let len' = ap length all ∙ length-append (frames_of m.body) rest in (
      ap Some (sym (frame_end-append m.body_start (given_frames trace) (frames_of m.body) rest fits)
          ∙ (λ i. frame_end (g.body_start i) (given_frames trace) (sym all i))),
      omega arith,
    )
place_grows len from upto m n trace on.pull on.pending g ordered fits =
    (ap (λ r. cond (has_chunks r) (Some (length (taken trace))) None) g.reading, tt)
place_grows len from upto m n trace _ _ g ordered fits = (refl, tt)

-- pulls pass as much of the grown one, and fit it
pub pulled_grows : (len from upto : ℕ) (m n : Message) (trace : List Step) → Grown len m n → IsOrdered from upto (runs_of n.body) → PullsFit m trace
    → (pulled_to m trace ≡ pulled_to n trace) × PullsFit n trace
pulled_grows len from upto m n [] g ordered fits = (pulled_to-nil m ∙ g.body_start ∙ sym (pulled_to-nil n), fit-nil n)
pulled_grows len from upto m n (s ∷ before) g ordered fits = go (head_of s.outcome) refl (pulled_grows len from upto m n before g ordered)
  where
    go : (o : Option Head) → head_of s.outcome ≡ o → (PullsFit m before → (pulled_to m before ≡ pulled_to n before) × PullsFit n before)
        → (pulled_to m (s ∷ before) ≡ pulled_to n (s ∷ before)) × PullsFit n (s ∷ before)
    go (Some h) e more = (pulled_to-head m s before h e ∙ g.body_start ∙ sym (pulled_to-head n s before h e), fit-head n s before h e)
    go None e more =
        let parts = fit-less m s before e fits in
        let here = place_grows len from upto m n (s ∷ before) s.event s.outcome g ordered parts.0 in
        let others = more parts.1 in (
          pulled_to-more m s before e ∙ (λ i. unwrap_or (here.0 i) (others.0 i)) ∙ sym (pulled_to-more n s before e),
          fit-more n s before e here.1 others.1,
        )

-- ---- what holds of the current message behind a trace

-- Its pulls pass it no further than was taken, than its end, and than the next byte or frame that isn't
-- given; and no more was given than is there.
pub record Holds (len : ℕ) (m : Message) (trace : List Step) : Type 0 where
  pub within : pulled_to m trace ≤ len
  pub before_next : (place : ℕ) → next_start m.body ≡ Some place → pulled_to m trace ≤ place
  pub before_left : IsBeforeLeft (pulled_to m trace) (given_bytes trace) (runs_of m.body)
  pub before_frames : is_frames m.body ≡ true → pulled_to m trace ≤ frame_end m.body_start (given_frames trace) (frames_of m.body)
  pub bytes_fit : given_bytes trace ≤ runs_len (runs_of m.body)
  pub frames_fit : given_frames trace ≤ length (frames_of m.body)
  pub pulls_fit : PullsFit m trace

-- more may be taken
pub longer_holds : (len longer : ℕ) (m : Message) (trace : List Step) → len ≤ longer → Holds len m trace → Holds longer m trace
longer_holds len longer m trace less x = record {
  within = omega (arith, x.within);
  before_next = x.before_next;
  before_left = x.before_left;
  before_frames = x.before_frames;
  bytes_fit = x.bytes_fit;
  frames_fit = x.frames_fit;
  pulls_fit = x.pulls_fit;
}

-- a step that is no pull and hands out nothing
pub record Idle (s : Step) : Type 0 where
  pub pull : is_pull s.event ≡ false
  pub head : head_of s.outcome ≡ None
  pub bytes : step_bytes s.outcome ≡ 0
  pub frames : step_frames s.outcome ≡ 0

-- it leaves what pulls pass
pub idle_pulled : (m : Message) (s : Step) (before : List Step) → Idle s → pulled_to m (s ∷ before) ≡ pulled_to m before
idle_pulled m s before idle =
    pulled_to-more m s before idle.head ∙ ap (λ o. unwrap_or o (pulled_to m before)) (not_pulled m (s ∷ before) s.event s.outcome idle.pull)

-- and all else
pub idle_holds : (len : ℕ) (m : Message) (s : Step) (before : List Step) → Idle s → Holds len m before → Holds len m (s ∷ before)
idle_holds len m s before idle x =
    let place = idle_pulled m s before idle in
    let bytes : given_bytes (s ∷ before) ≡ given_bytes before = omega (arith, given_bytes-more s before idle.head, idle.bytes) in
    let count : given_frames (s ∷ before) ≡ given_frames before = omega (arith, given_frames-more s before idle.head, idle.frames) in
    record {
      within = subst (λ n. n ≤ len) (sym place) x.within;
      before_next = λ next e. subst (λ n. n ≤ next) (sym place) (x.before_next next e);
      before_left = subst₂ (λ n g. IsBeforeLeft n g (runs_of m.body)) (sym place) (sym bytes) x.before_left;
      before_frames = λ framed. subst₂ (λ n g. n ≤ frame_end m.body_start g (frames_of m.body)) (sym place) (sym count) (x.before_frames framed);
      bytes_fit = omega (arith, x.bytes_fit);
      frames_fit = omega (arith, x.frames_fit);
      pulls_fit = fit-more m s before idle.head (not_pull_fits m (s ∷ before) s.event s.outcome idle.pull) x.pulls_fit;
    }

-- a message that grows
pub grown_holds : (len longer : ℕ) (m n : Message) (trace : List Step) → Grown len m n → Lies longer n.body_start n.body → Holds len m trace
    → Holds len n trace
grown_holds len longer m n trace g lies x =
    let same = pulled_grows len n.body_start longer m n trace g lies.runs x.pulls_fit in
    let place = same.0 in
    let runs = g.body.runs in
    let given = given_bytes trace in
    let within : pulled_to n trace ≤ len = omega (arith, x.within) in
    let cut : given ≤ runs_len (cut_runs len (runs_of n.body)) = subst (λ rs. given ≤ runs_len rs) runs x.bytes_fit in
    let rest = g.body.frames.0 in
    let all = g.body.frames.1 in
    let count = ap length all ∙ length-append (frames_of m.body) rest in
    let end : frame_end m.body_start (given_frames trace) (frames_of m.body) ≡ frame_end n.body_start (given_frames trace) (frames_of n.body) =
    sym (frame_end-append m.body_start (given_frames trace) (frames_of m.body) rest x.frames_fit)
    ∙ (λ i. frame_end (g.body_start i) (given_frames trace) (sym all i)) in
    record {
      within = within;
      before_next = λ next e. omega (arith, g.body.later next e);
      before_left = cut_before len (pulled_to n trace) n.body_start longer given (runs_of n.body) lies.runs within cut
          (subst₂ (λ p rs. IsBeforeLeft p given rs) place runs x.before_left);
      before_frames = λ framed. subst₂ (λ a b. a ≤ b) place end (x.before_frames (g.body.kind ∙ framed));
      bytes_fit = omega (arith, cut_len len (runs_of n.body));
      frames_fit = omega (arith, x.frames_fit);
      pulls_fit = same.1;
    }

-- a message of which nothing was given
pub fresh_holds : (len : ℕ) (m : Message) (trace : List Step) → Lies len m.body_start m.body → pulled_to m trace ≡ m.body_start
    → given_bytes trace ≡ 0 → given_frames trace ≡ 0 → PullsFit m trace → Holds len m trace
fresh_holds len m trace lies place bytes count fits = record {
  within = omega (arith, lies.start);
  before_next = λ next e. let behind = lies.next next e in omega (arith, behind.0);
  before_left = λ r e. let within = left_within m.body_start len (given_bytes trace) (runs_of m.body) r lies.runs e in omega (arith, within.0);
  before_frames = λ framed.
      let end = frame_end_within m.body_start len (given_frames trace) (frames_of m.body) lies.frames (omega arith) in
      omega (arith, end.0);
  bytes_fit = omega arith;
  frames_fit = omega arith;
  pulls_fit = fits;
}

-- ---- before any pull

-- no pull behind the head: nothing is passed, whatever the message is
pub unpulled_place : (m : Message) (trace : List Step) → was_pulled trace ≡ false → pulled_to m trace ≡ m.body_start
unpulled_place m [] x = pulled_to-nil m
unpulled_place m (s ∷ before) x = go (head_of s.outcome) refl (unpulled_place m before)
  where
    go : (o : Option Head) → head_of s.outcome ≡ o → (was_pulled before ≡ false → pulled_to m before ≡ m.body_start)
        → pulled_to m (s ∷ before) ≡ m.body_start
    go (Some h) e more = pulled_to-head m s before h e
    go None e more =
        let parts = or_parts (is_pull s.event) (was_pulled before) (sym (ap (list_any (λ t. is_pull t.event)) (since_head-more s before e)) ∙ x) in
        pulled_to-more m s before e ∙ ap (λ o. unwrap_or o (pulled_to m before)) (not_pulled m (s ∷ before) s.event s.outcome parts.0) ∙ more parts.1

-- and fits any
pub unpulled_fits : (m : Message) (trace : List Step) → was_pulled trace ≡ false → PullsFit m trace
unpulled_fits m [] x = fit-nil m
unpulled_fits m (s ∷ before) x = go (head_of s.outcome) refl (unpulled_fits m before)
  where
    go : (o : Option Head) → head_of s.outcome ≡ o → (was_pulled before ≡ false → PullsFit m before) → PullsFit m (s ∷ before)
    go (Some h) e more = fit-head m s before h e
    go None e more =
        let parts = or_parts (is_pull s.event) (was_pulled before) (sym (ap (list_any (λ t. is_pull t.event)) (since_head-more s before e)) ∙ x) in
        fit-more m s before e (not_pull_fits m (s ∷ before) s.event s.outcome parts.0) (more parts.1)
