-- What one more step does to the sums of a trace, and which steps there are.
use Rattle.std.proofs.Common.{◌≡◌, ℕ, suc, ◌+◌, ◌-◌, min, Bool, true, false, cond, List, [], ◌∷◌, ◌++◌, length, Option, Some, None, refl, sym, ap, ◌∙◌, subst, arith, append-nil}
use Rattle.std.specs.Prelude.{IsTrue, is_some, ◌||◌, ◌==◌, unwrap_or, option_map, option_and_then}
use Rattle.std.specs.List.{list_any}
use Rattle.std.specs.Option.{option_or}
use Rattle.std.proofs.lemmas.Bool.{cond-true, cond-false, cond_both, or_right, and_parts, not-true, false≢true}
use Rattle.std.proofs.lemmas.List.Sums.{sum_by-cons}
use Rattle.model_h1.specs.Request.{Head, too_large, Reading, head_is, faulty}
use Rattle.model_h1.specs.Setting.{Setting}
use Rattle.model_h1.specs.Frame.{ProtocolError}
use Rattle.model_h1.specs.Parse.{Input, Message, IsParse}
use Rattle.model_h1.specs.Handshake.{HandshakeError, handshake_error}
use Rattle.model_h1.specs.End as ends
use Rattle.model_h1.specs.End.{End}
use Rattle.model_h1.specs.Event.{Event, Outcome}
use Rattle.model_h1.specs.Event as on
use Rattle.model_h1.specs.Sums.{Step, step_taken, taken, is_eof, is_pull, accepted_limit, has_ended, accepted, head_of, since_head, completes, is_complete, was_pulled, was_dropped, request}
use Rattle.model_h1.specs.Past.{ParsedStep, steps, input_of, parse_of, head_count, current, upcoming, step_bytes, step_frames, given_bytes, given_frames, held}
use Rattle.model_h1.specs.Closing.{closing}
use Rattle.model_h1.specs.Allowed.{is_allowed_running, is_allowed_closing, is_allowed, waits_for_answer}
use Rattle.model_h1.specs.OutcomeTable.{head_outcome, upcoming_outcome, next_outcome, pull_outcome, tick_outcome, is_abandoned, is_slow, is_idle, send_outcome, outcome_of}
use Rattle.model_h1.proofs.MessageLemmas.{messages_unique}
use Rattle.model_h1.proofs.MessageGrowth.{piece_long}
use Rattle.model_h1.proofs.PastLemmas.{Legal}

-- ---- the sums of one more step

-- the bytes taken
pub taken-nil : taken [] ≡ []
unfolding taken
taken-nil = refl

pub taken-cons : (s : Step) (before : List Step) → taken (s ∷ before) ≡ taken before ++ step_taken s.event s.outcome
unfolding taken
taken-cons s before = refl

-- the limit of payloads
pub accepted-cons : (s : Step) (before : List Step) → accepted (s ∷ before) ≡ option_or (accepted_limit s.event s.outcome) (accepted before)
unfolding accepted
accepted-cons s before = refl

-- the steps behind the head
pub since_head-more : (s : Step) (before : List Step) → head_of s.outcome ≡ None → since_head (s ∷ before) ≡ s ∷ since_head before
unfolding since_head
since_head-more s before none = cond-false _ _ _ (ap is_some none)

pub since_head-head : (s : Step) (before : List Step) (h : Head) → head_of s.outcome ≡ Some h → since_head (s ∷ before) ≡ []
unfolding since_head
since_head-head s before h some = cond-true _ _ _ (ap is_some some)

-- how many heads were handed out
pub head_count-more : (s : Step) (before : List Step) → head_of s.outcome ≡ None → head_count (s ∷ before) ≡ head_count before
head_count-more s before none =
    sum_by-cons _ s before ∙ ap (λ (o : Option Head). cond (is_some o) 1 0 + head_count before) none ∙ omega arith

pub head_count-head : (s : Step) (before : List Step) (h : Head) → head_of s.outcome ≡ Some h → head_count (s ∷ before) ≡ suc (head_count before)
head_count-head s before h some =
    sum_by-cons _ s before ∙ ap (λ (o : Option Head). cond (is_some o) 1 0 + head_count before) some ∙ omega arith

-- how much was given of the body
pub given_bytes-more : (s : Step) (before : List Step) → head_of s.outcome ≡ None
    → given_bytes (s ∷ before) ≡ given_bytes before + step_bytes s.outcome
given_bytes-more s before none = rw (since_head-more s before none) (sum_by-cons _ s (since_head before) ∙ omega arith)

pub given_bytes-head : (s : Step) (before : List Step) (h : Head) → head_of s.outcome ≡ Some h → given_bytes (s ∷ before) ≡ 0
given_bytes-head s before h some = rw (since_head-head s before h some) refl

pub given_frames-more : (s : Step) (before : List Step) → head_of s.outcome ≡ None
    → given_frames (s ∷ before) ≡ given_frames before + step_frames s.outcome
given_frames-more s before none = rw (since_head-more s before none) (sum_by-cons _ s (since_head before) ∙ omega arith)

pub given_frames-head : (s : Step) (before : List Step) (h : Head) → head_of s.outcome ≡ Some h → given_frames (s ∷ before) ≡ 0
given_frames-head s before h some = rw (since_head-head s before h some) refl

-- ---- a complete answer

-- behind a head nothing is complete
pub complete-head : (s : Step) (before : List Step) (h : Head) → head_of s.outcome ≡ Some h → is_complete (s ∷ before) ≡ false
complete-head s before h some = ap (list_any (λ t. completes t.event)) (since_head-head s before h some)

-- behind another step, an answer is complete by it or was before
pub complete-more : (s : Step) (before : List Step) → head_of s.outcome ≡ None → is_complete (s ∷ before) ≡ (completes s.event || is_complete before)
complete-more s before none = ap (list_any (λ t. completes t.event)) (since_head-more s before none)

-- what is complete stays so until the next head
pub complete_stays : (s : Step) (before : List Step) → head_of s.outcome ≡ None → is_complete before ≡ true → is_complete (s ∷ before) ≡ true
complete_stays s before none x = complete-more s before none ∙ or_right (completes s.event) (is_complete before) x

-- ---- allowed events

-- what isn't allowed while the connection closes is allowed while it is open
open_test : (closes closed opened : Bool) → cond closes closed opened ≡ true → closed ≡ false → opened ≡ true
open_test true closed opened x shut = absurd (false≢true (sym shut ∙ x))
open_test false closed opened x shut = x

-- an event that isn't allowed while the connection closes is allowed as while it is open
pub allowed_open : (setting : Setting) (past : List ParsedStep) (e : Event) → is_allowed_closing (steps past) e ≡ false
    → IsTrue (is_allowed setting past e) → is_allowed_running setting (steps past) e ≡ true
unfolding is_allowed
allowed_open setting past e shut x = open_test (is_some (closing setting past)) _ _ (and_parts _ _ x).1 shut

-- ---- which steps there are

-- the outcome hands out nothing of a message
abbrev IsMute : Outcome → Type 0
IsMute o = (head_of o ≡ None) × (step_bytes o ≡ 0) × (step_frames o ≡ 0)

-- A step that takes no bytes, hands out nothing, is no pull, and changes neither the end of the input nor
-- the protocol.
pub record Quiet (before : List ParsedStep) (s : Step) : Type 0 where
  pub taken : step_taken s.event s.outcome ≡ []
  pub eof : is_eof s.event ≡ false
  pub accepted : accepted_limit s.event s.outcome ≡ None
  pub pull : is_pull s.event ≡ false
  pub head : head_of s.outcome ≡ None
  pub bytes : step_bytes s.outcome ≡ 0
  pub frames : step_frames s.outcome ≡ 0

-- bytes were read before the end of the input
pub record Reads (setting : Setting) (before : List ParsedStep) (s : Step) : Type 0 where
  pub bytes : List ℕ
  pub event : s.event ≡ on.read bytes
  pub outcome : s.outcome ≡ on.took (min (length bytes) (setting.hold_size - held before))
  pub unended : has_ended (steps before) ≡ false

-- the input ended
pub record Ends (before : List ParsedStep) (s : Step) : Type 0 where
  pub event : s.event ≡ on.eof
  pub outcome : s.outcome ≡ on.done
  pub unended : has_ended (steps before) ≡ false

-- a WebSocket was accepted, before any pull
pub record Accepts (before : List ParsedStep) (s : Step) : Type 0 where
  pub limit : ℕ
  pub event : s.event ≡ on.accept limit
  pub outcome : s.outcome ≡ on.done
  pub unanswered : waits_for_answer (steps before) ≡ true
  pub unpulled : (was_pulled (steps before) || was_dropped (steps before)) ≡ false

-- a head was handed out
pub record Begins (before : List ParsedStep) (s : Step) : Type 0 where
  pub message : Message
  pub head : Head
  pub event : s.event ≡ on.next
  pub outcome : s.outcome ≡ on.head head
  pub upcoming_is : upcoming before ≡ Some message
  pub reading : message.reading ≡ head_is head

-- more of the body was asked for
pub record Pulls (before : List ParsedStep) (s : Step) : Type 0 where
  pub event : s.event ≡ on.pull
  pub outcome : s.outcome ≡ pull_outcome (steps before) (current before)

-- each allowed step is one of these
pub data StepCase (setting : Setting) (before : List ParsedStep) (s : Step) : Type 0 where
  quiet : Quiet before s → StepCase setting before s
  reads : Reads setting before s → StepCase setting before s
  stops : Ends before s → StepCase setting before s
  accepts : Accepts before s → StepCase setting before s
  begins : Begins before s → StepCase setting before s
  pulls : Pulls before s → StepCase setting before s

-- a step
abbrev pub step : Event → Outcome → Step
step e o = record { event = e; outcome = o }

-- an outcome that is a mute one
mute : (o o' : Outcome) → o ≡ o' → IsMute o' → IsMute o
mute o o' e x = subst IsMute (sym e) x

-- a quiet step
silent : (setting : Setting) (before : List ParsedStep) (e : Event) (o o' : Outcome) → o ≡ o' → IsMute o' → step_taken e o' ≡ [] → is_eof e ≡ false
    → accepted_limit e o' ≡ None → is_pull e ≡ false → StepCase setting before (step e o)
silent setting before e o o' same x taken eof accepted pull =
    let m = mute o o' same x in
    quiet (record {
      taken = ap (step_taken e) same ∙ taken;
      eof = eof;
      accepted = ap (accepted_limit e) same ∙ accepted;
      pull = pull;
      head = m.0;
      bytes = m.1;
      frames = m.2;
    })

-- the head of a message that is to come, or its fault
head_case : (setting : Setting) (before : List ParsedStep) (o : Outcome) (m : Message) (r : Reading) → upcoming before ≡ Some m → m.reading ≡ r
    → o ≡ head_outcome r → StepCase setting before (step on.next o)
head_case setting before o m (head_is h) e read x =
    begins (record { message = m; head = h; event = refl; outcome = x; upcoming_is = e; reading = read })
head_case setting before o m (faulty fault) e read x = silent setting before on.next o _ x (refl, refl, refl) refl refl refl refl

-- where no message is to come
none_mute : (setting : Setting) (past : List ParsedStep) → IsMute (upcoming_outcome setting past None)
none_mute setting past =
    cond_both (held past == setting.hold_size) (on.fault too_large) on.pending IsMute
    (λ _. (refl, refl, refl)) (λ _. (refl, refl, refl))

-- Next while the connection is open, by the message that is to come
coming_case : (setting : Setting) (before : List ParsedStep) (o : Outcome) (m : Option Message) → upcoming before ≡ m
    → o ≡ upcoming_outcome setting before m → StepCase setting before (step on.next o)
coming_case setting before o (Some m) e x = head_case setting before o m m.reading e refl x
coming_case setting before o None e x = silent setting before on.next o _ x (none_mute setting before) refl refl refl refl

-- Next, by what closes the connection
next_case : (setting : Setting) (before : List ParsedStep) (o : Outcome) (end : Option End) → o ≡ next_outcome setting before end
    → StepCase setting before (step on.next o)
next_case setting before o (Some end) x = silent setting before on.next o _ x (refl, refl, refl) refl refl refl refl
next_case setting before o None x = coming_case setting before o (upcoming before) refl x

-- a tick hands out nothing
tick_mute : (setting : Setting) (past : List ParsedStep) (end : Option End) (first ms : ℕ) → IsMute (tick_outcome setting past end first ms)
tick_mute setting past (Some end) first ms =
    cond_both (is_abandoned setting past first ms) on.abandoned on.done IsMute
    (λ _. (refl, refl, refl)) (λ _. (refl, refl, refl))
tick_mute setting past None first ms =
    cond_both (is_slow setting past first ms) (on.expired ends.slow_request) _ IsMute
    (λ _. (refl, refl, refl))
    (λ _. cond_both (is_idle setting past first ms) (on.expired ends.keep_alive_expired) on.done IsMute
    (λ _. (refl, refl, refl)) (λ _. (refl, refl, refl)))

-- nor does a message that is sent
send_mute : (e : Option ProtocolError) → IsMute (send_outcome e)
send_mute None = (refl, refl, refl)
send_mute (Some e) = (refl, refl, refl)

-- Accept, by what is wrong with the handshake
accept_case : (setting : Setting) (before : List ParsedStep) (limit : ℕ) (o : Outcome) (wrong : Option HandshakeError)
    → o ≡ unwrap_or (option_map on.refused wrong) on.done → waits_for_answer (steps before) ≡ true
    → (was_pulled (steps before) || was_dropped (steps before)) ≡ false → StepCase setting before (step (on.accept limit) o)
accept_case setting before limit o (Some e) x unanswered unpulled =
    silent setting before (on.accept limit) o (on.refused e) x (refl, refl, refl) refl refl refl refl
accept_case setting before limit o None x unanswered unpulled =
    accepts (record { limit = limit; event = refl; outcome = x; unanswered = unanswered; unpulled = unpulled })

-- each event that is allowed
pub step_case : (setting : Setting) (before : List ParsedStep) (e : Event) (o : Outcome) → IsTrue (is_allowed setting before e)
    → o ≡ outcome_of setting before e → StepCase setting before (step e o)
unfolding outcome_of
step_case setting before (on.read bytes) o ok x =
    reads (record { bytes = bytes; event = refl; outcome = x; unended = not-true _ (allowed_open setting before (on.read bytes) refl ok) })
step_case setting before on.eof o ok x =
    stops (record { event = refl; outcome = x; unended = not-true _ (allowed_open setting before on.eof refl ok) })
step_case setting before on.next o ok x = next_case setting before o (closing setting before) x
step_case setting before on.pull o ok x = pulls (record { event = refl; outcome = x })
step_case setting before on.drop_body o ok x = silent setting before on.drop_body o on.done x (refl, refl, refl) refl refl refl refl
step_case setting before on.send_continue o ok x = silent setting before on.send_continue o on.done x (refl, refl, refl) refl refl refl refl
step_case setting before (on.answer head size) o ok x =
    silent setting before (on.answer head size) o on.done x (refl, refl, refl) refl refl refl refl
step_case setting before (on.chunk bytes) o ok x = silent setting before (on.chunk bytes) o on.done x (refl, refl, refl) refl refl refl refl
step_case setting before on.body_end o ok x = silent setting before on.body_end o on.done x (refl, refl, refl) refl refl refl refl
step_case setting before on.body_error o ok x = silent setting before on.body_error o on.done x (refl, refl, refl) refl refl refl refl
step_case setting before (on.write n) o ok x = silent setting before (on.write n) o _ x (refl, refl, refl) refl refl refl refl
step_case setting before (on.tick ms) o ok x =
    silent setting before (on.tick ms) o _ x (tick_mute setting before (closing setting before) _ ms) refl refl refl refl
step_case setting before on.drain o ok x = silent setting before on.drain o on.done x (refl, refl, refl) refl refl refl refl
step_case setting before (on.accept limit) o ok x =
    let test = allowed_open setting before (on.accept limit) refl ok in
    let parts = and_parts _ _ (and_parts _ _ test).0 in
    accept_case setting before limit o (option_and_then handshake_error (request (steps before))) x parts.0 (not-true _ (and_parts _ _ parts.1).1)
step_case setting before (on.send m) o ok x = silent setting before (on.send m) o _ x (send_mute _) refl refl refl refl

-- ---- the parse

-- no bytes have no head
pub nothing_parsed : (setting : Setting) → IsParse (input_of setting []) []
unfolding taken
nothing_parsed setting = λ s e x. absurd (omega (arith, piece_long [] 0 s e x))

-- the parse of a legal past is that of the bytes taken
pub parsed : (setting : Setting) (past : List ParsedStep) → Legal setting past → IsParse (input_of setting (steps past)) (parse_of past)
parsed setting [] x = nothing_parsed setting
parsed setting (m ∷ before) x = x.0

-- a step that changes neither bytes nor protocol nor the end leaves the input
pub same_input : (setting : Setting) (s : Step) (before : List Step) → step_taken s.event s.outcome ≡ [] → is_eof s.event ≡ false
    → accepted_limit s.event s.outcome ≡ None → input_of setting (s ∷ before) ≡ input_of setting before
same_input setting s before none eof unaccepted =
    let bytes : taken (s ∷ before) ≡ taken before = taken-cons s before ∙ ap (λ t. taken before ++ t) none ∙ append-nil (taken before) in
    let upgraded : accepted (s ∷ before) ≡ accepted before = accepted-cons s before ∙ ap (λ o. option_or o (accepted before)) unaccepted in
    λ i. record { bytes = bytes i; upgraded = upgraded i; ended = eof i || has_ended before; hold_size = setting.hold_size }

-- and with it the parse
pub same_parse : (setting : Setting) (x : ParsedStep) (before : List ParsedStep)
    → input_of setting (x.step ∷ steps before) ≡ input_of setting (steps before)
    → IsParse (input_of setting (x.step ∷ steps before)) x.parse → IsParse (input_of setting (steps before)) (parse_of before)
    → x.parse ≡ parse_of before
same_parse setting x before same p q =
    messages_unique (input_of setting (steps before)) 0 x.parse (parse_of before) (subst (λ (i : Input). IsParse i x.parse) same p) q
