-- The number behind one more step.
use Rattle.std.proofs.Common.{◌≡◌, ◌≢◌, ◌⊎◌, ℕ, Bool, true, false, zero, suc, ◌≤◌, List, [], ◌∷◌, length, drop, Option, Some, None, refl, sym, ap, ◌∙◌, inl, inr, arith}
use Rattle.std.proofs.lemmas.Bool.{false≢true}
use Rattle.model_h1.specs.Request.{Head, Fault}
use Rattle.model_h1.specs.Parse.{Message}
use Rattle.model_h1.specs.Setting.{Setting}
use Rattle.model_h1.specs.Event.{Event, Outcome}
use Rattle.model_h1.specs.Event as on
use Rattle.model_h1.specs.Sums.{Step}
use Rattle.model_h1.specs.Past.{ParsedStep, steps, parse_of, head_count, current}
use Rattle.model_h1.specs.Trace.{IsPastOf}
use Rattle.model_h1.proofs.PastLemmas.{past_of_unique}
use Rattle.model_h1.proofs.PastExistence.{past_exists}
use Rattle.model_state.specs.Ahead.{MAX_AHEAD, is_bodiless, following, decoded_behind, ahead_after, ahead, IsAhead}
use Rattle.model_state.proofs.Following.{following_within}

pub ahead-nil : ahead [] ≡ 0
unfolding ahead
ahead-nil = refl

pub ahead-cons : (x : ParsedStep) (before : List ParsedStep) → ahead (x ∷ before) ≡ ahead_after x.step.event x.step.outcome (ahead before) (decoded_behind (x ∷ before))
unfolding ahead
ahead-cons x before = refl

-- ---- which steps change it

-- none but a call for the next head
pub other_event : (e : Event) (o : Outcome) (n decoded : ℕ) → e ≢ on.next → ahead_after e o n decoded ≡ n
other_event (on.read bytes) o n decoded other = refl
other_event on.eof o n decoded other = refl
other_event on.next o n decoded other = absurd (other refl)
other_event on.pull o n decoded other = refl
other_event on.drop_body o n decoded other = refl
other_event on.send_continue o n decoded other = refl
other_event (on.answer head size) o n decoded other = refl
other_event (on.chunk bytes) o n decoded other = refl
other_event on.body_end o n decoded other = refl
other_event on.body_error o n decoded other = refl
other_event (on.write limit) o n decoded other = refl
other_event (on.tick ms) o n decoded other = refl
other_event on.drain o n decoded other = refl
other_event (on.accept limit) o n decoded other = refl
other_event (on.send message) o n decoded other = refl

-- of these, none but one that hands out a head or a fault
pub other_outcome : (o : Outcome) (n decoded : ℕ) → ((h : Head) → o ≢ on.head h) → ((f : Fault) → o ≢ on.fault f) → ahead_after on.next o n decoded ≡ n
other_outcome (on.took count) n decoded head fault = refl
other_outcome (on.head h) n decoded head fault = absurd (head h refl)
other_outcome (on.bytes more) n decoded head fault = refl
other_outcome (on.trailers lines) n decoded head fault = refl
other_outcome on.body_ended n decoded head fault = refl
other_outcome (on.frame f) n decoded head fault = refl
other_outcome on.pending n decoded head fault = refl
other_outcome (on.closed end) n decoded head fault = refl
other_outcome (on.fault f) n decoded head fault = absurd (fault f refl)
other_outcome (on.broken_by f) n decoded head fault = refl
other_outcome (on.protocol error) n decoded head fault = refl
other_outcome (on.refused error) n decoded head fault = refl
other_outcome (on.gave bytes) n decoded head fault = refl
other_outcome (on.expired end) n decoded head fault = refl
other_outcome on.abandoned n decoded head fault = refl
other_outcome on.done n decoded head fault = refl

-- ---- its bound

decoded_bound : (past : List ParsedStep) (m : Option Message) → current past ≡ m → decoded_behind past ≤ MAX_AHEAD
decoded_bound past None is = let none : decoded_behind past ≡ 0 = rw is refl in omega (arith, none)
decoded_bound past (Some m) is =
    let some : decoded_behind past ≡ following MAX_AHEAD (is_bodiless m.reading) (drop (head_count (steps past)) (parse_of past)) = rw is refl in
    let most = following_within MAX_AHEAD (is_bodiless m.reading) (drop (head_count (steps past)) (parse_of past)) in
    omega (arith, some, most)

-- behind a call for the next head
next_bound : (o : Outcome) (n decoded limit : ℕ) → n ≤ limit → decoded ≤ limit → ahead_after on.next o n decoded ≤ limit
next_bound (on.head h) zero decoded limit less most = most
next_bound (on.head h) (suc n) decoded limit less most = omega (arith, less)
next_bound (on.fault f) zero decoded limit less most = less
next_bound (on.fault f) (suc n) decoded limit less most = omega (arith, less)
next_bound (on.took count) n decoded limit less most = less
next_bound (on.bytes more) n decoded limit less most = less
next_bound (on.trailers lines) n decoded limit less most = less
next_bound on.body_ended n decoded limit less most = less
next_bound (on.frame f) n decoded limit less most = less
next_bound on.pending n decoded limit less most = less
next_bound (on.closed end) n decoded limit less most = less
next_bound (on.broken_by f) n decoded limit less most = less
next_bound (on.protocol error) n decoded limit less most = less
next_bound (on.refused error) n decoded limit less most = less
next_bound (on.gave bytes) n decoded limit less most = less
next_bound (on.expired end) n decoded limit less most = less
next_bound on.abandoned n decoded limit less most = less
next_bound on.done n decoded limit less most = less

abbrev is_next : Event → Bool
is_next on.next = true
is_next _ = false

-- an event is a call for the next head or none
pub next_or_other : (e : Event) → (e ≡ on.next) ⊎ (e ≢ on.next)
next_or_other on.next = inl refl
next_or_other (on.read bytes) = inr (λ is. false≢true (ap is_next is))
next_or_other on.eof = inr (λ is. false≢true (ap is_next is))
next_or_other on.pull = inr (λ is. false≢true (ap is_next is))
next_or_other on.drop_body = inr (λ is. false≢true (ap is_next is))
next_or_other on.send_continue = inr (λ is. false≢true (ap is_next is))
next_or_other (on.answer head size) = inr (λ is. false≢true (ap is_next is))
next_or_other (on.chunk bytes) = inr (λ is. false≢true (ap is_next is))
next_or_other on.body_end = inr (λ is. false≢true (ap is_next is))
next_or_other on.body_error = inr (λ is. false≢true (ap is_next is))
next_or_other (on.write limit) = inr (λ is. false≢true (ap is_next is))
next_or_other (on.tick ms) = inr (λ is. false≢true (ap is_next is))
next_or_other on.drain = inr (λ is. false≢true (ap is_next is))
next_or_other (on.accept limit) = inr (λ is. false≢true (ap is_next is))
next_or_other (on.send message) = inr (λ is. false≢true (ap is_next is))

pub ahead_bound : (past : List ParsedStep) → ahead past ≤ MAX_AHEAD
ahead_bound [] = omega (arith, ahead-nil)
ahead_bound (x ∷ before) =
    let less = ahead_bound before in
    elim (next_or_other x.step.event) [
      | inl next ↦
          let most = decoded_bound (x ∷ before) (current (x ∷ before)) refl in
          let is = ahead-cons x before ∙ ap (λ e. ahead_after e x.step.outcome (ahead before) (decoded_behind (x ∷ before))) next in
          let bound = next_bound x.step.outcome (ahead before) (decoded_behind (x ∷ before)) MAX_AHEAD less most in
          omega (arith, is, bound)
      | inr other ↦
          let is = ahead-cons x before ∙ other_event x.step.event x.step.outcome (ahead before) (decoded_behind (x ∷ before)) other in
          omega (arith, is, less)
    ]

-- ---- of a trace

pub number_unique : (setting : Setting) (trace : List Step) (m n : ℕ) → IsAhead setting trace m → IsAhead setting trace n → m ≡ n
number_unique setting trace m n (p, of_p, m_is) (q, of_q, n_is) = m_is ∙ ap (λ (past : List ParsedStep). ahead past) (past_of_unique setting trace p q of_p of_q) ∙ sym n_is

-- the past behind a step is that of the steps before and one more
pub past_before : (setting : Setting) (s : Step) (trace : List Step) (q : List ParsedStep) → IsPastOf setting (s ∷ trace) q
    → (x : ParsedStep) × (before : List ParsedStep) × (q ≡ x ∷ before) × (x.step ≡ s) × IsPastOf setting trace before
past_before setting s trace [] of = let none = ap (λ (t : List Step). length t) of.same in absurd (omega (arith, none))
past_before setting s trace (x ∷ before) of =
    (x, before, refl, ap (λ (t : List Step). first_or t s) of.same, record { same = ap (λ (t : List Step). drop 1 t) of.same; right = of.right.1 })
  where
    first_or : List Step → Step → Step
    first_or [] s = s
    first_or (t ∷ ts) s = t

-- What comes of the number behind one more step, for each past of the longer trace.
pub number_behind : (setting : Setting) (s : Step) (trace : List Step) (n : ℕ) (q : List ParsedStep) → IsAhead setting trace n → IsPastOf setting (s ∷ trace) q
    → ahead q ≡ ahead_after s.event s.outcome n (decoded_behind q)
number_behind setting s trace n q (p, of_p, is) of =
    let (x, before, q_is, step_is, of_before) = past_before setting s trace q of in
    let same = past_of_unique setting trace p before of_p of_before in
    let number : ahead before ≡ n = sym (is ∙ ap (λ (past : List ParsedStep). ahead past) same) in
    ap (λ (past : List ParsedStep). ahead past) q_is ∙ ahead-cons x before
    ∙ (λ i. ahead_after (step_is i).event (step_is i).outcome (number i) (decoded_behind (sym q_is i)))

pub goes_on : (setting : Setting) (s : Step) (trace : List Step) (n m : ℕ) → IsAhead setting trace n
    → ((q : List ParsedStep) → IsPastOf setting (s ∷ trace) q → ahead_after s.event s.outcome n (decoded_behind q) ≡ m) → IsAhead setting (s ∷ trace) m
goes_on setting s trace n m is after =
    let (q, of) = past_exists setting (s ∷ trace) in
    (q, of, sym (number_behind setting s trace n q is of ∙ after q of))
