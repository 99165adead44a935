-- What a legal past keeps in order: an answer is one to a request, what is complete was begun, and a WebSocket is an
-- open request with no answer.
use Rattle.std.proofs.Common.{◌≡◌, ℕ, Bool, true, false, List, [], ◌∷◌, Option, Some, None, refl, sym, ap, ◌∙◌, subst, inl, inr}
use Rattle.std.specs.Prelude.{IsTrue, ◌||◌, ◌&&◌, not, is_some, is_none, if◌then◌else◌}
use Rattle.std.specs.Option.{option_or}
use Rattle.std.proofs.lemmas.Bool.{cond-true, cond-false, true≢false, false≢true, and_parts, not-true}
use Rattle.model_h1.specs.Request.{Head, is_raw_kind}
use Rattle.model_h1.specs.Setting.{Setting}
use Rattle.model_h1.specs.Event.{Event, Outcome}
use Rattle.model_h1.specs.Event as on
use Rattle.model_h1.specs.End.{End}
use Rattle.model_h1.specs.Sums.{Step, accepted_limit, accepted, head_of, since_head, request, answered_by, answered, is_draining, completes, is_complete, is_open, is_upgraded, is_answering}
use Rattle.model_h1.specs.Past.{ParsedStep, steps}
use Rattle.model_h1.specs.Closing.{closing}
use Rattle.model_h1.specs.Allowed.{is_allowed, is_allowed_running, waits_for_answer, asks_raw}
use Rattle.model_h1.specs.OutcomeTable.{next_outcome, outcome_of}
use Rattle.model_h1.proofs.PastLemmas.{Legal}
use Rattle.model_h1.proofs.StepLemmas.{step, accepted-cons, complete-head, complete-more, allowed_open}
use Rattle.model_h1.proofs.HeldSteps.{headless_or_begins}
use Rattle.model_h1.proofs.HeldLemmas.{not_upgraded}
use Rattle.model_h1.proofs.HandedTrace.{request-more}

-- ---- the answer, of one more step

-- by that step, or else by those before it
pub answered-cons : (s : Step) (before : List Step)
    → answered (s ∷ before) ≡ (if is_some (head_of s.outcome) then None else option_or (answered_by s.event (is_draining before)) (answered before))
unfolding answered
answered-cons s before = refl

-- behind a head there is none
pub answered-head : (s : Step) (before : List Step) (h : Head) → head_of s.outcome ≡ Some h → answered (s ∷ before) ≡ None
answered-head s before h some = answered-cons s before ∙ cond-true _ _ _ (ap is_some some)

-- behind another step that is no answer it stays
pub answered-more : (s : Step) (before : List Step) → head_of s.outcome ≡ None → answered_by s.event (is_draining before) ≡ None
    → answered (s ∷ before) ≡ answered before
answered-more s before none other = answered-cons s before ∙ cond-false _ _ _ (ap is_some none) ∙ ap (λ o. option_or o (answered before)) other

-- ---- what is in order

-- an open request with a raw body, to which there is no answer
pub record Waits (trace : List Step) : Type 0 where
  pub head : Head
  pub request_is : request trace ≡ Some head
  pub raw : is_raw_kind head.body ≡ true
  pub unanswered : answered trace ≡ None
  pub incomplete : is_complete trace ≡ false

-- what is complete was begun; what was answered was asked; and a WebSocket is a request that waits
pub record Orderly (trace : List Step) : Type 0 where
  pub complete : is_complete trace ≡ true → is_some (answered trace) ≡ true
  pub answered : is_some (answered trace) ≡ true → is_some (request trace) ≡ true
  pub upgraded : is_upgraded trace ≡ true → Waits trace

-- a request that waits is open
pub waits_open : (trace : List Step) → is_upgraded trace ≡ true → Waits trace → is_open trace ≡ true
waits_open trace up w = rw (w.request_is, up) refl

-- ---- steps

-- the step hands out no head, is no answer, completes none and accepts nothing
record IsCalm (s : Step) : Type 0 where
  pub head : head_of s.outcome ≡ None
  pub answer : (drained : Bool) → answered_by s.event drained ≡ None
  pub completes : completes s.event ≡ false
  pub accepts : accepted_limit s.event s.outcome ≡ None

-- such a step leaves all
calm_orderly : (s : Step) (before : List Step) → IsCalm s → Orderly before → Orderly (s ∷ before)
calm_orderly s before c x =
    let complete : is_complete (s ∷ before) ≡ is_complete before = complete-more s before c.head ∙ ap (λ b. b || is_complete before) c.completes in
    let answer = answered-more s before c.head (c.answer (is_draining before)) in
    let asked = request-more s before c.head in
    let upgraded = accepted-cons s before ∙ ap (λ o. option_or o (accepted before)) c.accepts in
    record {
      complete = λ e. ap is_some answer ∙ x.complete (sym complete ∙ e);
      answered = λ e. ap is_some asked ∙ x.answered (sym (ap is_some answer) ∙ e);
      upgraded = λ e.
          let w = x.upgraded (sym (ap is_some upgraded) ∙ e) in
          record { head = w.head; request_is = asked ∙ w.request_is; raw = w.raw; unanswered = answer ∙ w.unanswered; incomplete = complete ∙ w.incomplete };
    }

-- what is allowed while the connection is open
running_test : (setting : Setting) (past : List ParsedStep) (e : Event) → closing setting past ≡ None → IsTrue (is_allowed setting past e)
    → is_allowed_running setting (steps past) e ≡ true
unfolding is_allowed
running_test setting past e runs x =
    sym (cond-false (is_some (closing setting past)) _ _ (ap is_some runs)) ∙ (and_parts _ _ x).1

-- a head is handed out only where the last request is done with
pub head_free : (setting : Setting) (past : List ParsedStep) (h : Head) → IsTrue (is_allowed setting past on.next)
    → on.head h ≡ outcome_of setting past on.next → is_open (steps past) ≡ false
unfolding outcome_of
head_free setting past h ok x = go (closing setting past) refl x
  where
    go : (end : Option End) → closing setting past ≡ end → on.head h ≡ next_outcome setting past end → is_open (steps past) ≡ false
    go (Some end) e y = absurd (true≢false (ap (λ o. is_some (head_of o)) y))
    go None e y = not-true _ (running_test setting past on.next e ok)

-- a head
head_orderly : (s : Step) (before : List Step) (h : Head) → head_of s.outcome ≡ Some h → accepted_limit s.event s.outcome ≡ None
    → is_open before ≡ false → Orderly before → Orderly (s ∷ before)
head_orderly s before h some unaccepted free x =
    let upgraded = accepted-cons s before ∙ ap (λ o. option_or o (accepted before)) unaccepted in
    let none = answered-head s before h some in
    record {
      complete = λ e. absurd (true≢false (sym e ∙ complete-head s before h some));
      answered = λ e. absurd (true≢false (sym e ∙ ap is_some none));
      upgraded = λ e.
          let was = sym (ap is_some upgraded) ∙ e in
          absurd (true≢false (sym (waits_open before was (x.upgraded was)) ∙ free));
    }

-- what waits for its answer was asked
unanswered_parts : (trace : List Step) → waits_for_answer trace ≡ true → (is_open trace ≡ true) × (answered trace ≡ None) × (accepted trace ≡ None)
unanswered_parts trace x =
    let parts = and_parts (is_open trace && is_none (answered trace)) (not (is_upgraded trace)) x in
    let both = and_parts (is_open trace) (is_none (answered trace)) parts.0 in
    (both.0, none_of (answered trace) both.1, not_upgraded trace x)
  where
    none_of : {A : Type 0} (o : Option A) → is_none o ≡ true → o ≡ None
    none_of None e = refl
    none_of (Some a) e = absurd (false≢true e)

-- an open request was asked, and no answer is complete where it is no WebSocket
open_parts : (trace : List Step) → is_open trace ≡ true → accepted trace ≡ None → (is_some (request trace) ≡ true) × (is_complete trace ≡ false)
open_parts trace x plain =
    let parts = and_parts (is_some (request trace)) (is_upgraded trace || not (is_complete trace)) x in
    (parts.0, not-true (is_complete trace) (sym (ap (λ (o : Option ℕ). is_some o || not (is_complete trace)) plain) ∙ parts.1))

-- an answer
answer_orderly : (s : Step) (before : List Step) → head_of s.outcome ≡ None → is_some (answered_by s.event (is_draining before)) ≡ true
    → accepted_limit s.event s.outcome ≡ None → waits_for_answer before ≡ true → Orderly (s ∷ before)
answer_orderly s before none some unaccepted waits =
    let parts = unanswered_parts before waits in
    let asked = (open_parts before parts.0 parts.2).0 in
    let upgraded = accepted-cons s before ∙ ap (λ o. option_or o (accepted before)) unaccepted ∙ parts.2 in
    record {
      complete = λ e. ap is_some (answered-cons s before ∙ cond-false _ _ _ (ap is_some none)) ∙ or_some _ (answered before) some;
      answered = λ e. ap is_some (request-more s before none) ∙ asked;
      upgraded = λ e. absurd (true≢false (sym e ∙ ap is_some upgraded));
    }
  where
    or_some : {A : Type 0} (a b : Option A) → is_some a ≡ true → is_some (option_or a b) ≡ true
    or_some (Some x) b e = refl
    or_some None b e = absurd (false≢true e)

-- the end of an answer's body
end_orderly : (s : Step) (before : List Step) → head_of s.outcome ≡ None → ((drained : Bool) → answered_by s.event drained ≡ None)
    → accepted_limit s.event s.outcome ≡ None → is_answering before ≡ true → Orderly before → Orderly (s ∷ before)
end_orderly s before none other unaccepted answering x =
    let some = (and_parts (is_some (answered before)) (not (is_complete before)) answering).0 in
    let answer = answered-more s before none (other (is_draining before)) in
    let upgraded = accepted-cons s before ∙ ap (λ o. option_or o (accepted before)) unaccepted in
    record {
      complete = λ e. ap is_some answer ∙ some;
      answered = λ e. ap is_some (request-more s before none) ∙ x.answered some;
      upgraded = λ e.
          let w = x.upgraded (sym (ap is_some upgraded) ∙ e) in
          absurd (true≢false (sym some ∙ ap is_some w.unanswered));
    }

-- a WebSocket that is asked for, accepted or not
accept_orderly : (s : Step) (before : List Step) → head_of s.outcome ≡ None → ((drained : Bool) → answered_by s.event drained ≡ None)
    → completes s.event ≡ false → waits_for_answer before ≡ true → asks_raw (request before) ≡ true → Orderly before → Orderly (s ∷ before)
accept_orderly s before none other incomplete waits raw x =
    let parts = unanswered_parts before waits in
    let asked = open_parts before parts.0 parts.2 in
    let complete = complete-more s before none ∙ ap (λ b. b || is_complete before) incomplete ∙ asked.1 in
    let answer = answered-more s before none (other (is_draining before)) ∙ parts.1 in
    let same = request-more s before none in
    let head = raw_head (request before) raw in
    record {
      complete = λ e. absurd (true≢false (sym e ∙ complete));
      answered = λ e. ap is_some same ∙ asked.0;
      upgraded = λ e. record { head = head.0; request_is = same ∙ head.1; raw = head.2; unanswered = answer; incomplete = complete };
    }
  where
    raw_head : (o : Option Head) → asks_raw o ≡ true → (h : Head) × (o ≡ Some h) × (is_raw_kind h.body ≡ true)
    raw_head None e = absurd (false≢true e)
    raw_head (Some h) e = (h, refl, e)

-- ---- each event

-- but for Next
event_orderly : (setting : Setting) (before : List ParsedStep) (e : Event) (o : Outcome) → head_of o ≡ None → IsTrue (is_allowed setting before e)
    → o ≡ outcome_of setting before e → Orderly (steps before) → Orderly (step e o ∷ steps before)
event_orderly setting before (on.answer head size) o none ok x old =
    answer_orderly (step (on.answer head size) o) (steps before) none refl refl (allowed_open setting before (on.answer head size) refl ok)
event_orderly setting before on.body_end o none ok x old =
    end_orderly (step on.body_end o) (steps before) none (λ d. refl) refl (allowed_open setting before on.body_end refl ok) old
event_orderly setting before (on.accept limit) o none ok x old =
    let parts = and_parts _ _ (and_parts _ _ (allowed_open setting before (on.accept limit) refl ok)).0 in
    accept_orderly (step (on.accept limit) o) (steps before) none (λ d. refl) refl parts.0 (and_parts _ _ parts.1).0 old
event_orderly setting before e o none ok x old =
    calm_orderly (step e o) (steps before) (record { head = none; answer = λ d. refl; completes = refl; accepts = refl }) old

-- nothing is in order
nothing_orderly : Orderly []
unfolding answered accepted since_head
nothing_orderly = record { complete = λ e. absurd (false≢true e); answered = λ e. absurd (false≢true e); upgraded = λ e. absurd (false≢true e) }

-- every legal past is in order
pub orderly : (setting : Setting) (past : List ParsedStep) → Legal setting past → Orderly (steps past)
orderly setting [] l = nothing_orderly
orderly setting (x ∷ before) l =
    let old = orderly setting before l.3 in
    elim (headless_or_begins setting before x l) [
      | inl none ↦ event_orderly setting before x.step.event x.step.outcome none l.1 l.2 old
      | inr b ↦
          let ok = subst (λ e. IsTrue (is_allowed setting before e)) b.event l.1 in
          let is = sym b.outcome ∙ l.2 ∙ ap (outcome_of setting before) b.event in
          head_orderly x.step (steps before) b.head (ap head_of b.outcome) (ap (λ e. accepted_limit e x.step.outcome) b.event)
          (head_free setting before b.head ok is) old
    ]
