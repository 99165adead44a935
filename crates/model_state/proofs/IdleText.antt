-- Only a pull hands out trailers; and a step that is no pull leaves what holds of the passed text.
use Rattle.std.proofs.Common.{◌≡◌, ℕ, Bool, true, false, cond, List, ◌∷◌, ◌++◌, length, Option, Some, None, refl, sym, ap, ◌∙◌, arith, length-append}
use Rattle.std.specs.Prelude.{◌||◌, ◌==◌, unwrap_or, option_map, option_and_then}
use Rattle.std.specs.List.{list_any}
use Rattle.std.proofs.lemmas.Bool.{cond_both, true≢false}
use Rattle.model_h1.specs.Place.{start, after}
use Rattle.model_h1.specs.Reading.{read}
use Rattle.model_h1.specs.Request.{too_large, Reading, head_is, faulty}
use Rattle.model_h1.specs.Setting.{Setting}
use Rattle.model_h1.specs.Frame.{ProtocolError}
use Rattle.model_h1.specs.FrameText.{send_error}
use Rattle.model_h1.specs.Handshake.{HandshakeError, handshake_error}
use Rattle.model_h1.specs.Parse.{Message}
use Rattle.model_h1.specs.End as ends
use Rattle.model_h1.specs.End.{End}
use Rattle.model_h1.specs.Event.{Event, Outcome}
use Rattle.model_h1.specs.Event as on
use Rattle.model_h1.specs.Sums.{Step, step_taken, taken, is_pull, request, first_tick, is_sending}
use Rattle.model_h1.specs.Past.{ParsedStep, steps, given_bytes, upcoming, held, pulled_to}
use Rattle.model_h1.specs.Closing.{closing}
use Rattle.model_h1.specs.Allowed.{gives_up}
use Rattle.model_h1.specs.OutcomeTable.{is_trailers, gave_trailers, head_outcome, upcoming_outcome, next_outcome, tick_outcome, is_abandoned, is_slow, is_idle, send_outcome, outcome_of}
use Rattle.model_h1.proofs.HeadPieceLemmas.{slice_range-append}
use Rattle.model_h1.proofs.HandedTrace.{gave_up}
use Rattle.model_h1.proofs.StepLemmas.{taken-cons, since_head-more, given_bytes-more}
use Rattle.model_h1.proofs.PulledLemmas.{Idle, idle_pulled}
use Rattle.model_state.proofs.PassedText.{Follows}
use Rattle.model_state.proofs.ChunkOutcomes.{FollowsTo, same_follows}

-- ---- trailers

-- a choice between two outcomes that hand out none
no_trailers_either : (b : Bool) (o o' : Outcome) → is_trailers o ≡ false → is_trailers o' ≡ false → is_trailers (cond b o o') ≡ false
no_trailers_either b o o' x y = cond_both b o o' (λ o. is_trailers o ≡ false) (λ _. x) (λ _. y)

-- a head or its fault
head_no_trailers : (r : Reading) → is_trailers (head_outcome r) ≡ false
head_no_trailers (head_is h) = refl
head_no_trailers (faulty fault) = refl

-- what a call for a head answers while the connection is open
upcoming_no_trailers : (setting : Setting) (past : List ParsedStep) (m : Option Message) → is_trailers (upcoming_outcome setting past m) ≡ false
upcoming_no_trailers setting past (Some m) = head_no_trailers m.reading
upcoming_no_trailers setting past None = no_trailers_either (held past == setting.hold_size) (on.fault too_large) on.pending refl refl

-- what it answers at any time
next_no_trailers : (setting : Setting) (past : List ParsedStep) (end : Option End) → is_trailers (next_outcome setting past end) ≡ false
next_no_trailers setting past (Some end) = refl
next_no_trailers setting past None = upcoming_no_trailers setting past (upcoming past)

-- what a tick answers
tick_no_trailers : (setting : Setting) (past : List ParsedStep) (end : Option End) (first ms : ℕ)
    → is_trailers (tick_outcome setting past end first ms) ≡ false
tick_no_trailers setting past (Some end) first ms = no_trailers_either (is_abandoned setting past first ms) on.abandoned on.done refl refl
tick_no_trailers setting past None first ms =
    no_trailers_either (is_slow setting past first ms) (on.expired ends.slow_request) _ refl
    (no_trailers_either (is_idle setting past first ms) (on.expired ends.keep_alive_expired) on.done refl refl)

-- what an acceptance answers
accept_no_trailers : (error : Option HandshakeError) → is_trailers (unwrap_or (option_map on.refused error) on.done) ≡ false
accept_no_trailers None = refl
accept_no_trailers (Some error) = refl

-- what a message that is sent answers
send_no_trailers : (error : Option ProtocolError) → is_trailers (send_outcome error) ≡ false
send_no_trailers None = refl
send_no_trailers (Some error) = refl

-- no other event does
pub only_pulls_give_trailers : (setting : Setting) (past : List ParsedStep) (e : Event) → is_pull e ≡ false
    → is_trailers (outcome_of setting past e) ≡ false
unfolding outcome_of
only_pulls_give_trailers setting past on.next none = next_no_trailers setting past (closing setting past)
only_pulls_give_trailers setting past on.pull none = absurd (true≢false none)
only_pulls_give_trailers setting past (on.tick ms) none =
    tick_no_trailers setting past (closing setting past) (unwrap_or (first_tick (steps past)) ms) ms
only_pulls_give_trailers setting past (on.accept limit) none = accept_no_trailers (option_and_then handshake_error (request (steps past)))
only_pulls_give_trailers setting past (on.send m) none = send_no_trailers (send_error (is_sending (steps past)) m)
only_pulls_give_trailers setting past e none = refl

-- ---- other steps

-- what closed a body still does
still_closed : (told more finished : Bool) → (told || finished) ≡ true → (told || (more || finished)) ≡ true
still_closed true more finished x = refl
still_closed false true finished x = refl
still_closed false false finished x = x

-- more bytes, and another end
follows_more : (place upto : ℕ) (bytes more : List ℕ) (given : ℕ) (told other finished : Bool) → Follows place upto bytes given told finished
    → Follows place upto (bytes ++ more) given told (other || finished)
follows_more place upto bytes more given told other finished f =
    let within = f.within in
    let part = slice_range-append bytes more place upto f.order within in
    let same = ap (after start) part in
    record {
      order = f.order;
      within = omega (arith, length-append bytes more);
      unbroken = λ b. f.unbroken (sym same ∙ b);
      given_is = ap (λ l. length (read start l).body) part ∙ f.given_is;
      closes = λ d. still_closed told other finished (f.closes (sym same ∙ d));
      opens = λ t. same ∙ f.opens t;
    }

-- a step that is no pull, and hands out no head
pub follows_idle : (m : Message) (s : Step) (trace : List Step) → Idle s → is_trailers s.outcome ≡ false → FollowsTo m trace → FollowsTo m (s ∷ trace)
follows_idle m s trace idle none f =
    let since = since_head-more s trace idle.head in
    let more = step_taken s.event s.outcome in
    let up = gives_up s.event s.outcome in
    let given : given_bytes trace ≡ given_bytes (s ∷ trace) = omega (arith, given_bytes-more s trace idle.head, idle.bytes) in
    let told : gave_trailers (s ∷ trace) ≡ gave_trailers trace =
    ap (list_any (λ s. is_trailers s.outcome)) since ∙ ap (λ b. b || gave_trailers trace) none in
    same_follows m.body_start (pulled_to m trace) (pulled_to m (s ∷ trace)) (taken trace ++ more) (taken (s ∷ trace))
    (given_bytes trace) (given_bytes (s ∷ trace))
    (gave_trailers trace) (gave_trailers (s ∷ trace)) (up || gave_up trace) (gave_up (s ∷ trace))
    (sym (idle_pulled m s trace idle)) (sym (taken-cons s trace)) given (sym told)
    (sym (ap (list_any (λ s. gives_up s.event s.outcome)) since))
    (follows_more m.body_start (pulled_to m trace) (taken trace) more (given_bytes trace) (gave_trailers trace) up (gave_up trace) f)
