-- What one more step does to what was handed out, and which steps there are.
use Rattle.std.proofs.Common.{◌≡◌, ℕ, Bool, true, false, List, [], ◌∷◌, Option, Some, None, refl, sym, ap, ◌∙◌}
use Rattle.std.specs.Prelude.{IsTrue, is_some, ◌||◌, unwrap_or, option_map, option_and_then}
use Rattle.std.specs.List.{list_any}
use Rattle.std.specs.Option.{option_or}
use Rattle.std.proofs.lemmas.Bool.{cond-true, cond-false, cond_both, or_parts, and_parts, not-true, false≢true, true≢false}
use Rattle.model_h1.specs.Request.{Head}
use Rattle.model_h1.specs.Setting.{Setting}
use Rattle.model_h1.specs.Frame.{ProtocolError}
use Rattle.model_h1.specs.Handshake.{HandshakeError, handshake_error}
use Rattle.model_h1.specs.End as ends
use Rattle.model_h1.specs.End.{End}
use Rattle.model_h1.specs.Event.{Event, Outcome}
use Rattle.model_h1.specs.Event as on
use Rattle.model_h1.specs.Sums.{Step, step_taken, is_eof, is_pull, accepted_limit, accepted, has_ended, since_head, is_upgraded, head_of, completes, was_pulled, was_dropped, is_open, request}
use Rattle.model_h1.specs.Handed.{HandedOut, nothing_handed, handing, marking_answered, handed_out}
use Rattle.model_h1.specs.Past.{ParsedStep, steps, current, upcoming}
use Rattle.model_h1.specs.Closing.{told_end, told, closing}
use Rattle.model_h1.specs.Allowed.{is_allowed_closing, is_allowed, waits_for_answer, asks_raw, gives_up, has_body_left}
use Rattle.model_h1.specs.OutcomeTable.{is_trailers, gave_trailers, upcoming_outcome, next_outcome, pull_outcome, tick_outcome, is_abandoned, is_slow, is_idle, send_outcome, outcome_of}
use Rattle.model_h1.proofs.StepLemmas.{accepted-cons, since_head-more, allowed_open}
use Rattle.model_h1.proofs.HandedItems.{outcome_items}

-- ---- sums of one more step

-- what was handed out
pub handed_out-nil : handed_out [] ≡ nothing_handed
unfolding handed_out
handed_out-nil = refl

-- one more step
pub handed_out-cons : (s : Step) (before : List Step)
    → handed_out (s ∷ before) ≡ marking_answered (completes s.event) (handing s.outcome (handed_out before))
unfolding handed_out
handed_out-cons s before = refl

-- the last request
pub request-more : (s : Step) (before : List Step) → head_of s.outcome ≡ None → request (s ∷ before) ≡ request before
unfolding request
request-more s before none = ap (λ (o : Option Head). option_or o (request before)) none

-- a new one
pub request-head : (s : Step) (before : List Step) (h : Head) → head_of s.outcome ≡ Some h → request (s ∷ before) ≡ Some h
unfolding request
request-head s before h some = ap (λ (o : Option Head). option_or o (request before)) some

-- a WebSocket was accepted
pub upgraded-more : (s : Step) (before : List Step) → accepted_limit s.event s.outcome ≡ None → is_upgraded (s ∷ before) ≡ is_upgraded before
upgraded-more s before none = ap is_some (accepted-cons s before ∙ ap (λ o. option_or o (accepted before)) none)

-- trailers were handed out
pub gave_trailers-more : (s : Step) (before : List Step) → head_of s.outcome ≡ None
    → gave_trailers (s ∷ before) ≡ (is_trailers s.outcome || gave_trailers before)
gave_trailers-more s before none = ap (list_any (λ t. is_trailers t.outcome)) (since_head-more s before none)

-- the body's end, fault or drop came
abbrev pub gave_up : List Step → Bool
gave_up trace = list_any (λ s. gives_up s.event s.outcome) (since_head trace)

-- by this step, or before
pub gave_up-more : (s : Step) (before : List Step) → head_of s.outcome ≡ None → gave_up (s ∷ before) ≡ (gives_up s.event s.outcome || gave_up before)
gave_up-more s before none = ap (list_any (λ t. gives_up t.event t.outcome)) (since_head-more s before none)

-- its body was asked for
pub was_pulled-more : (s : Step) (before : List Step) → head_of s.outcome ≡ None → was_pulled (s ∷ before) ≡ (is_pull s.event || was_pulled before)
was_pulled-more s before none = ap (list_any (λ t. is_pull t.event)) (since_head-more s before none)

-- an end that was told
pub told-more : (s : Step) (before : List Step) → is_some (told before) ≡ true → is_some (told (s ∷ before)) ≡ true
unfolding told
told-more s before some = either (told_end s.outcome) (told before) some
  where
    either : (a b : Option End) → is_some b ≡ true → is_some (option_or a b) ≡ true
    either (Some end) b some = refl
    either None b some = some

-- this step told one
pub told-here : (s : Step) (before : List Step) (end : End) → told_end s.outcome ≡ Some end → is_some (told (s ∷ before)) ≡ true
unfolding told
told-here s before end e = ap (λ (o : Option End). is_some (option_or o (told before))) e

-- a connection that told an end closes
pub told_closes : (setting : Setting) (past : List ParsedStep) → is_some (told (steps past)) ≡ true → is_some (closing setting past) ≡ true
unfolding closing
told_closes setting past some = first (told (steps past)) _ some
  where
    first : (a b : Option End) → is_some a ≡ true → is_some (option_or a b) ≡ true
    first (Some end) b some = refl
    first None b some = absurd (false≢true some)

-- ---- outcomes that hand out nothing of a message

-- the outcome hands out a further message
abbrev pub is_opening : Outcome → Bool
is_opening (on.head h) = true
is_opening (on.fault f) = true
is_opening _ = false

-- the outcome adds nothing
abbrev pub is_silent : Outcome → Bool
is_silent (on.head h) = false
is_silent (on.fault f) = false
is_silent (on.bytes more) = false
is_silent (on.trailers lines) = false
is_silent on.body_ended = false
is_silent (on.broken_by f) = false
is_silent (on.frame f) = false
is_silent _ = true

-- what was handed out stays
pub silent_same : (o : Outcome) (out : HandedOut) → is_silent o ≡ true → handing o out ≡ out
silent_same (on.head h) out e = absurd (false≢true e)
silent_same (on.fault f) out e = absurd (false≢true e)
silent_same (on.bytes more) out e = absurd (false≢true e)
silent_same (on.trailers lines) out e = absurd (false≢true e)
silent_same on.body_ended out e = absurd (false≢true e)
silent_same (on.broken_by f) out e = absurd (false≢true e)
silent_same (on.frame f) out e = absurd (false≢true e)
silent_same _ out e = refl

-- it has no item
pub silent_items : (o : Outcome) → is_silent o ≡ true → outcome_items o ≡ []
silent_items (on.bytes more) e = absurd (false≢true e)
silent_items (on.trailers lines) e = absurd (false≢true e)
silent_items on.body_ended e = absurd (false≢true e)
silent_items (on.broken_by f) e = absurd (false≢true e)
silent_items (on.frame f) e = absurd (false≢true e)
silent_items _ e = refl

-- and no message
pub silent_opening : (o : Outcome) → is_silent o ≡ true → is_opening o ≡ false
silent_opening (on.head h) e = absurd (false≢true e)
silent_opening (on.fault f) e = absurd (false≢true e)
silent_opening _ e = refl

-- an outcome that hands out no message has no head
pub opening_head : (o : Outcome) → is_opening o ≡ false → head_of o ≡ None
opening_head (on.head h) e = absurd (true≢false e)
opening_head _ e = refl

-- ---- which steps there are

-- a step that takes no bytes and hands out nothing, is no pull, and changes neither the end of the input
-- nor the protocol
pub record Other (s : Step) : Type 0 where
  pub taken : step_taken s.event s.outcome ≡ []
  pub eof : is_eof s.event ≡ false
  pub accepted : accepted_limit s.event s.outcome ≡ None
  pub pull : is_pull s.event ≡ false
  pub silent : is_silent s.outcome ≡ true

-- bytes were read, or the input ended
pub record Grows (before : List ParsedStep) (s : Step) : Type 0 where
  pub unended : has_ended (steps before) ≡ false
  pub accepted : accepted_limit s.event s.outcome ≡ None
  pub pull : is_pull s.event ≡ false
  pub silent : is_silent s.outcome ≡ true

-- a WebSocket was accepted for a raw body, before any pull
pub record Accepts (before : List ParsedStep) (s : Step) : Type 0 where
  pub limit : ℕ
  pub event : s.event ≡ on.accept limit
  pub outcome : s.outcome ≡ on.done
  pub unaccepted : accepted (steps before) ≡ None
  pub raw : asks_raw (request (steps before)) ≡ true
  pub pulled : was_pulled (steps before) ≡ false

-- the next head was asked for
pub record Comes (setting : Setting) (before : List ParsedStep) (s : Step) : Type 0 where
  pub event : s.event ≡ on.next
  pub outcome : s.outcome ≡ upcoming_outcome setting before (upcoming before)
  pub done : is_open (steps before) ≡ false

-- more of the body was asked for, and its end hadn't come
pub record Pulls (before : List ParsedStep) (s : Step) : Type 0 where
  pub event : s.event ≡ on.pull
  pub allowed : (is_upgraded (steps before) || has_body_left (steps before) (request (steps before))) ≡ true
  pub outcome : s.outcome ≡ pull_outcome (steps before) (current before)

-- each step is one of these
pub data StepCase (setting : Setting) (before : List ParsedStep) (s : Step) : Type 0 where
  other : Other s → StepCase setting before s
  grows : Grows before s → StepCase setting before s
  accepts : Accepts before s → StepCase setting before s
  comes : Comes setting before s → StepCase setting before s
  pulls : Pulls before s → StepCase setting before s

-- a step
abbrev pub step : Event → Outcome → Step
step e o = record { event = e; outcome = o }

-- a step of this event, by an outcome that hands out nothing
still : (e : Event) (o o' : Outcome) → o ≡ o' → is_silent o' ≡ true → step_taken e o' ≡ [] → is_eof e ≡ false → accepted_limit e o' ≡ None
    → is_pull e ≡ false → Other (step e o)
still e o o' same silent taken eof accepted pull = record {
  taken = ap (step_taken e) same ∙ taken;
  eof = eof;
  accepted = ap (accepted_limit e) same ∙ accepted;
  pull = pull;
  silent = ap is_silent same ∙ silent;
}

-- a tick hands out nothing
tick_silent : (setting : Setting) (past : List ParsedStep) (end : Option End) (first ms : ℕ)
    → is_silent (tick_outcome setting past end first ms) ≡ true
tick_silent setting past (Some end) first ms =
    cond_both (is_abandoned setting past first ms) on.abandoned on.done (λ o. is_silent o ≡ true) (λ _. refl) (λ _. refl)
tick_silent setting past None first ms =
    cond_both (is_slow setting past first ms) (on.expired ends.slow_request) _ (λ o. is_silent o ≡ true) (λ _. refl)
    (λ _. cond_both (is_idle setting past first ms) (on.expired ends.keep_alive_expired) on.done (λ o. is_silent o ≡ true) (λ _. refl) (λ _. refl))

-- nor does a message that is sent
send_silent : (e : Option ProtocolError) → is_silent (send_outcome e) ≡ true
send_silent None = refl
send_silent (Some e) = refl

-- Next, by what closes the connection
next_case : (setting : Setting) (before : List ParsedStep) (o : Outcome) (end : Option End) → closing setting before ≡ end
    → IsTrue (is_allowed setting before on.next) → o ≡ next_outcome setting before end → StepCase setting before (step on.next o)
unfolding is_allowed
next_case setting before o (Some end) e ok x = other (still on.next o (on.closed end) x refl refl refl refl refl)
next_case setting before o None e ok x =
    let test = sym (cond-false (is_some (closing setting before)) _ _ (ap is_some e)) ∙ (and_parts _ _ ok).1 in
    comes (record { event = refl; outcome = x; done = not-true _ test })

-- no limit
no_limit : (o : Option ℕ) → is_some o ≡ false → o ≡ None
no_limit None e = refl
no_limit (Some limit) e = absurd (true≢false e)

-- Accept, by what is wrong with the handshake
accept_case : (setting : Setting) (before : List ParsedStep) (limit : ℕ) (o : Outcome) (wrong : Option HandshakeError)
    → o ≡ unwrap_or (option_map on.refused wrong) on.done → waits_for_answer (steps before) ≡ true → asks_raw (request (steps before)) ≡ true
    → (was_pulled (steps before) || was_dropped (steps before)) ≡ false → StepCase setting before (step (on.accept limit) o)
accept_case setting before limit o (Some e) x unanswered raw unpulled = other (still (on.accept limit) o (on.refused e) x refl refl refl refl refl)
accept_case setting before limit o None x unanswered raw unpulled =
    accepts (record {
      limit = limit;
      event = refl;
      outcome = x;
      unaccepted = no_limit (accepted (steps before)) (not-true _ (and_parts _ _ unanswered).1);
      raw = raw;
      pulled = (or_parts _ _ unpulled).0;
    })

-- each event that is allowed
pub step_case : (setting : Setting) (before : List ParsedStep) (e : Event) (o : Outcome) → IsTrue (is_allowed setting before e)
    → o ≡ outcome_of setting before e → StepCase setting before (step e o)
unfolding outcome_of
step_case setting before (on.read bytes) o ok x =
    grows (record {
      unended = not-true _ (allowed_open setting before (on.read bytes) refl ok);
      accepted = refl;
      pull = refl;
      silent = ap is_silent x;
    })
step_case setting before on.eof o ok x =
    grows (record {
      unended = not-true _ (allowed_open setting before on.eof refl ok);
      accepted = refl;
      pull = refl;
      silent = ap is_silent x;
    })
step_case setting before on.next o ok x = next_case setting before o (closing setting before) refl ok x
step_case setting before on.pull o ok x = pulls (record { event = refl; allowed = allowed_open setting before on.pull refl ok; outcome = x })
step_case setting before on.drop_body o ok x = other (still on.drop_body o on.done x refl refl refl refl refl)
step_case setting before on.send_continue o ok x = other (still on.send_continue o on.done x refl refl refl refl refl)
step_case setting before (on.answer head size) o ok x = other (still (on.answer head size) o on.done x refl refl refl refl refl)
step_case setting before (on.chunk bytes) o ok x = other (still (on.chunk bytes) o on.done x refl refl refl refl refl)
step_case setting before on.body_end o ok x = other (still on.body_end o on.done x refl refl refl refl refl)
step_case setting before on.body_error o ok x = other (still on.body_error o on.done x refl refl refl refl refl)
step_case setting before (on.write n) o ok x = other (still (on.write n) o _ x refl refl refl refl refl)
step_case setting before (on.tick ms) o ok x =
    other (still (on.tick ms) o _ x (tick_silent setting before (closing setting before) _ ms) refl refl refl refl)
step_case setting before on.drain o ok x = other (still on.drain o on.done x refl refl refl refl refl)
step_case setting before (on.accept limit) o ok x =
    let test = allowed_open setting before (on.accept limit) refl ok in
    let parts = and_parts _ _ (and_parts _ _ test).0 in
    let asked = and_parts _ _ parts.1 in
    accept_case setting before limit o (option_and_then handshake_error (request (steps before))) x parts.0 asked.0 (not-true _ asked.1)
step_case setting before (on.send m) o ok x = other (still (on.send m) o _ x (send_silent _) refl refl refl refl)

-- ---- steps of a connection that closes

-- a step that completes no answer either
pub record Closed (s : Step) : Type 0 where
  pub other : Other s
  pub completes : completes s.event ≡ false

-- what is allowed while the connection closes
allowed_closing : (setting : Setting) (past : List ParsedStep) (e : Event) → is_some (closing setting past) ≡ true
    → IsTrue (is_allowed setting past e) → is_allowed_closing (steps past) e ≡ true
unfolding is_allowed
allowed_closing setting past e closes x = sym (cond-true (is_some (closing setting past)) _ _ closes) ∙ (and_parts _ _ x).1

-- Next tells that it closes
closed_next : (setting : Setting) (before : List ParsedStep) (o : Outcome) (end : Option End) → is_some end ≡ true
    → o ≡ next_outcome setting before end → Closed (step on.next o)
closed_next setting before o (Some end) some x = record { other = still on.next o (on.closed end) x refl refl refl refl refl; completes = refl }
closed_next setting before o None some x = absurd (false≢true some)

-- each event that is allowed then
pub closing_case : (setting : Setting) (before : List ParsedStep) (e : Event) (o : Outcome) → is_some (closing setting before) ≡ true
    → IsTrue (is_allowed setting before e) → o ≡ outcome_of setting before e → Closed (step e o)
unfolding outcome_of
closing_case setting before on.next o closes ok x = closed_next setting before o (closing setting before) closes x
closing_case setting before (on.write n) o closes ok x =
    record { other = still (on.write n) o _ x refl refl refl refl refl; completes = refl }
closing_case setting before (on.tick ms) o closes ok x =
    record { other = still (on.tick ms) o _ x (tick_silent setting before (closing setting before) _ ms) refl refl refl refl; completes = refl }
closing_case setting before _ o closes ok x = absurd (false≢true (allowed_closing setting before _ closes ok))
