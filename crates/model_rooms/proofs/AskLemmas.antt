-- The rules of a turn are questions for what is allowed.
use Rattle.std.proofs.Common.{◌≡◌, ◌≤◌, ℕ, Bool, true, false, List, Option, Some, None, refl, sym, ap, ◌∙◌, subst, inl, inr, if◌then◌else◌}
use Rattle.std.specs.Prelude.{not, ◌&&◌, ◌||◌, is_some}
use Rattle.std.proofs.lemmas.Bool.{cases_Bool}
use Rattle.model_h1.specs.Limits.{MAX_FRAME_HEAD}
use Rattle.model_h1.specs.Setting.{Setting}
use Rattle.model_h1.specs.Answer.{size_of}
use Rattle.model_h1.specs.Frame.{Frame}
use Rattle.model_h1.specs.Frame as frames
use Rattle.model_h1.specs.Handshake.{HandshakeError}
use Rattle.model_h1.specs.Event.{Event}
use Rattle.model_h1.specs.Event as on
use Rattle.model_h1.specs.Sums.{Step, request, is_open, is_upgraded}
use Rattle.model_h1.specs.Past.{ParsedStep, steps}
use Rattle.model_h1.specs.Closing.{closing}
use Rattle.model_h1.specs.Allowed.{is_over, waits_for_answer, asks_raw, has_room, is_allowed, is_allowed_running}
use Rattle.model_h1.specs.Trace.{IsPastOf}
use Rattle.model_rooms.specs.Seen.{Seen}
use Rattle.model_rooms.specs.Trace.{core_trace, IsHubTrace}
use Rattle.model_rooms.specs.Turn.{accept_limit, answer_head, request_event, tried, turn_event, asked_event}
use Rattle.model_rooms.proofs.TurnLemmas.{Tame, all_tame, unanswered, limit_fits}

-- what may come while the connection goes on and has an open request
running : (setting : Setting) (past : List ParsedStep) (event : Event) → is_over (steps past) ≡ false → is_some (closing setting past) ≡ false
    → is_allowed setting past event ≡ is_allowed_running setting (steps past) event
unfolding is_allowed
running setting past event goes_on runs = rw (goes_on, runs) refl

and_trues : (a : Bool) → ((a && true) && true) ≡ a
and_trues true = refl
and_trues false = refl

and_false : (a : Bool) → (a && false) ≡ false
and_false true = refl
and_false false = refl

-- a WebSocket isn't waiting for an answer
upgraded_answered : (trace : List Step) → is_upgraded trace ≡ true → waits_for_answer trace ≡ false
upgraded_answered trace up = rw up (and_false _)

accepts : (setting : Setting) (trace : List Step) → MAX_FRAME_HEAD ≤ setting.hold_size → Tame trace → is_open trace ≡ true → is_upgraded trace ≡ false
    → is_allowed_running setting trace (on.accept (accept_limit setting)) ≡ asks_raw (request trace)
accepts setting trace fits tame opened not_up =
    rw (unanswered trace tame opened not_up, tame.unpulled not_up, tame.undropped, limit_fits setting fits) (and_trues (asks_raw (request trace)))

-- a request that isn't upgraded
asked_request : (setting : Setting) (raw : Bool) (refusal : Option HandshakeError) (waiting : List Frame)
    → request_event setting raw refusal
    ≡ (if not (is_some refusal) && raw then on.accept (accept_limit setting)
    else on.answer (answer_head refusal) (size_of 0))
asked_request setting raw (Some e) waiting = refl
asked_request setting true None waiting = refl
asked_request setting false None waiting = refl

-- next may come
next_allowed : (setting : Setting) (past : List ParsedStep) → is_over (steps past) ≡ false
    → (is_some (closing setting past) || not (is_open (steps past))) ≡ true → is_allowed setting past on.next ≡ true
unfolding is_allowed
next_allowed setting past goes_on e = elim (cases_Bool (is_some (closing setting past))) [
  | inl closes ↦ rw (goes_on, closes) refl
  | inr runs ↦ rw (goes_on, runs) (let o : not (is_open (steps past)) ≡ true = rw runs at e in o)
]

-- the rules and the questions where no next one may come
open_asks : (setting : Setting) (past : List ParsedStep) (waiting : List Frame) → MAX_FRAME_HEAD ≤ setting.hold_size
    → Tame (steps past) → is_over (steps past) ≡ false → is_some (closing setting past) ≡ false → is_open (steps past) ≡ true
    → turn_event setting past waiting ≡ asked_event (is_allowed setting past) setting (tried (steps past)) waiting
unfolding turn_event
open_asks setting past waiting fits tame goes_on runs opened =
    let next : is_allowed setting past on.next ≡ false = running setting past on.next goes_on runs ∙ ap not opened in
    elim (cases_Bool (is_upgraded (steps past))) [
      | inl up ↦
          let busy = upgraded_answered (steps past) up in
          let accept : is_allowed setting past (on.accept (accept_limit setting)) ≡ false =
          running setting past (on.accept (accept_limit setting)) goes_on runs ∙ rw busy refl in
          let answer : is_allowed setting past (on.answer (answer_head (tried (steps past))) (size_of 0)) ≡ false =
          running setting past (on.answer (answer_head (tried (steps past))) (size_of 0)) goes_on runs ∙ busy in
          let send : is_allowed setting past (on.send frames.nop) ≡ has_room setting (steps past) =
          running setting past (on.send frames.nop) goes_on runs ∙ rw up refl in
          rw (runs, opened, up, next, accept, answer, send, and_false (not (is_some (tried (steps past))))) refl
      | inr not_up ↦
          let accept : is_allowed setting past (on.accept (accept_limit setting)) ≡ asks_raw (request (steps past)) =
          running setting past (on.accept (accept_limit setting)) goes_on runs ∙ accepts setting (steps past) fits tame opened not_up in
          let answer : is_allowed setting past (on.answer (answer_head (tried (steps past))) (size_of 0)) ≡ true =
          running setting past (on.answer (answer_head (tried (steps past))) (size_of 0)) goes_on runs ∙ unanswered (steps past) tame opened not_up in
          rw (runs, opened, not_up, next, accept, answer) (asked_request setting (asks_raw (request (steps past))) (tried (steps past)) waiting)
    ]

pub turn_asks : (setting : Setting) (past : List ParsedStep) (waiting : List Frame) → MAX_FRAME_HEAD ≤ setting.hold_size
    → Tame (steps past) → is_over (steps past) ≡ false
    → turn_event setting past waiting ≡ asked_event (is_allowed setting past) setting (tried (steps past)) waiting
unfolding turn_event
turn_asks setting past waiting fits tame goes_on = elim (cases_Bool (is_some (closing setting past))) [
  | inl closes ↦ rw (next_allowed setting past goes_on (rw closes refl), closes) refl
  | inr runs ↦ elim (cases_Bool (is_open (steps past))) [
    | inl opened ↦ open_asks setting past waiting fits tame goes_on runs opened
    | inr none_open ↦ rw (next_allowed setting past goes_on (rw (runs, none_open) refl), runs, none_open) refl
  ]
]

pub each_turn_asks : (setting : Setting) (seen : List Seen) (i : ℕ) (past : List ParsedStep) (waiting : List Frame) → MAX_FRAME_HEAD ≤ setting.hold_size
    → IsHubTrace setting seen → is_over (core_trace i seen) ≡ false → IsPastOf setting (core_trace i seen) past
    → turn_event setting past waiting ≡ asked_event (is_allowed setting past) setting (tried (core_trace i seen)) waiting
each_turn_asks setting seen i past waiting fits x goes_on p =
    let tame : Tame (steps past) = subst Tame (sym p.same) (all_tame setting seen i x) in
    let goes_on' : is_over (steps past) ≡ false = subst (λ (t : List Step). is_over t ≡ false) (sym p.same) goes_on in
    subst (λ (t : List Step). turn_event setting past waiting ≡ asked_event (is_allowed setting past) setting (tried t) waiting) p.same
    (turn_asks setting past waiting fits tame goes_on')
