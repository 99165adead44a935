-- The event of a turn is allowed.
use Rattle.std.proofs.Common.{◌≡◌, ◌≤◌, ℕ, ◌+◌, ◌⊎◌, Bool, true, false, List, [], ◌∷◌, IsTrue, Option, Some, None, refl, ◌∙◌, sym, subst, inl, inr, ◌==◌, arith}
use Rattle.std.specs.Prelude.{not, ◌&&◌, ◌||◌, is_some, nat_le, if◌then◌else◌}
use Rattle.std.specs.Option.{option_or}
use Rattle.std.proofs.lemmas.Bool.{cases_Bool, eqb-true, le-leb}
use Rattle.model_h1.specs.Limits.{MAX_FRAME_HEAD}
use Rattle.model_h1.specs.Setting.{Setting}
use Rattle.model_h1.specs.Frame.{Frame}
use Rattle.model_h1.specs.Handshake.{HandshakeError}
use Rattle.model_h1.specs.Event.{Event, Outcome}
use Rattle.model_h1.specs.Event as on
use Rattle.model_h1.specs.Sums.{Step, Answered, is_pull, is_drop, head_of, request, since_head, accepted_limit, accepted, is_upgraded, answered_by, answered, completes, is_complete, was_pulled, was_dropped, is_open, is_draining}
use Rattle.model_h1.specs.Past.{ParsedStep, steps}
use Rattle.model_h1.specs.Closing.{closing}
use Rattle.model_h1.specs.Allowed.{is_over, waits_for_answer, asks_raw, has_room, is_allowed, is_allowed_running, is_allowed_closing}
use Rattle.model_h1.specs.Trace.{IsAllowed}
use Rattle.model_rooms.specs.Hub.{core_of}
use Rattle.model_rooms.specs.Seen.{Seen, row_of}
use Rattle.model_rooms.specs.Turn.{accept_limit, request_event, socket_event, tried, turn_event}
use Rattle.model_rooms.specs.Trace.{is_fed, core_trace, IsTurnEvent, IsHubTrace}
use Rattle.model_rooms.proofs.StepViews.{view_of, core_opening, core_own, core_other}

-- ---- what a hub never brings to a connection

-- no pull before it is upgraded, no drop, and no answer with a body
pub record Mild (trace : List Step) (event : Event) : Type 0 where
  pub pulls : is_upgraded trace ≡ false → is_pull event ≡ false
  pub drops : is_drop event ≡ false
  pub ends : (drained : Bool) → is_some (answered_by event drained) ≡ true → completes event ≡ true

abbrev pub IsNone : Bool → Type 0
IsNone b = b ≡ false

plain : (trace : List Step) (event : Event) → is_pull event ≡ false → is_drop event ≡ false
    → ((drained : Bool) → is_some (answered_by event drained) ≡ false) → Mild trace event
plain trace event p d a = record { pulls = λ e. p; drops = d; ends = λ drained e. absurd (let n = a drained in cc) }

fed_mild : (trace : List Step) (event : Event) → IsTrue (is_fed event) → Mild trace event
fed_mild trace (on.read bytes) x = plain trace (on.read bytes) refl refl (λ d. refl)
fed_mild trace on.eof x = plain trace on.eof refl refl (λ d. refl)
fed_mild trace on.drain x = plain trace on.drain refl refl (λ d. refl)
fed_mild trace (on.write n) x = plain trace (on.write n) refl refl (λ d. refl)
fed_mild trace (on.tick ms) x = plain trace (on.tick ms) refl refl (λ d. refl)
fed_mild trace on.next x = absurd (cc)
fed_mild trace on.pull x = absurd (cc)
fed_mild trace on.drop_body x = absurd (cc)
fed_mild trace on.send_continue x = absurd (cc)
fed_mild trace (on.answer head size) x = absurd (cc)
fed_mild trace (on.chunk bytes) x = absurd (cc)
fed_mild trace on.body_end x = absurd (cc)
fed_mild trace on.body_error x = absurd (cc)
fed_mild trace (on.accept limit) x = absurd (cc)
fed_mild trace (on.send message) x = absurd (cc)

socket_mild : (trace : List Step) (has_room : Bool) (waiting : List Frame) → is_upgraded trace ≡ true → Mild trace (socket_event has_room waiting)
socket_mild trace true (f ∷ fs) up = record { pulls = λ e. refl; drops = refl; ends = λ d (e : false ≡ true). absurd (cc) }
socket_mild trace true [] up = record { pulls = λ e. absurd (cc); drops = refl; ends = λ d (e : false ≡ true). absurd (cc) }
socket_mild trace false waiting up = record { pulls = λ e. absurd (cc); drops = refl; ends = λ d (e : false ≡ true). absurd (cc) }

request_mild : (setting : Setting) (trace : List Step) (may_upgrade : Bool) (refusal : Option HandshakeError)
    → Mild trace (request_event setting may_upgrade refusal)
request_mild setting trace may_upgrade (Some e) = record { pulls = λ e. refl; drops = refl; ends = λ d e. refl }
request_mild setting trace true None = record { pulls = λ e. refl; drops = refl; ends = λ d (e : false ≡ true). absurd (cc) }
request_mild setting trace false None = record { pulls = λ e. refl; drops = refl; ends = λ d e. refl }

turn_mild : (setting : Setting) (past : List ParsedStep) (waiting : List Frame) → Mild (steps past) (turn_event setting past waiting)
unfolding turn_event
turn_mild setting past waiting = elim (cases_Bool (is_some (closing setting past) || not (is_open (steps past)))) [
  | inl nothing_open ↦ rw nothing_open (plain (steps past) on.next refl refl (λ d. refl))
  | inr one_open ↦ elim (cases_Bool (is_upgraded (steps past))) [
    | inl up ↦ rw (one_open, up) (socket_mild (steps past) (has_room setting (steps past)) waiting up)
    | inr not_up ↦ rw (one_open, not_up) (request_mild setting (steps past) (asks_raw (request (steps past))) (tried (steps past)))
  ]
]

from_mild : (setting : Setting) (before : List Seen) (i : ℕ) (event : Event)
    → IsTrue (is_fed event) ⊎ IsTurnEvent setting before i event → Mild (core_trace i before) event
from_mild setting before i event (inl x) = fed_mild (core_trace i before) event x
from_mild setting before i event (inr x) =
    subst (λ (e : Event). Mild (core_trace i before) e) (sym x.2)
    (subst (λ (t : List Step). Mild t (turn_event setting x.0 (row_of i before).waiting)) x.1.same (turn_mild setting x.0 (row_of i before).waiting))

-- ---- so this holds of each trace of a connection

pub record Tame (trace : List Step) : Type 0 where
  pub unpulled : is_upgraded trace ≡ false → was_pulled trace ≡ false
  pub undropped : was_dropped trace ≡ false
  pub whole : is_some (answered trace) ≡ true → is_complete trace ≡ true

not_upgraded_before : (o : Option ℕ) (a : Option ℕ) → is_some (option_or o a) ≡ false → is_some a ≡ false
not_upgraded_before (Some l) a e = absurd (cc)
not_upgraded_before None a e = e

not_later : (s : Step) (trace : List Step) → is_upgraded (s ∷ trace) ≡ false → is_upgraded trace ≡ false
unfolding accepted
not_later s trace e = not_upgraded_before (accepted_limit s.event s.outcome) (accepted trace) e

or_false : (a b : Bool) → a ≡ false → b ≡ false → (a || b) ≡ false
or_false a b x y = rw (x, y) refl

completes_or : (a b : Bool) → b ≡ true → (a || b) ≡ true
completes_or true b e = refl
completes_or false b e = e

answered_or : (o : Option Answered) (a : Option Answered) (c w : Bool) → (is_some o ≡ true → c ≡ true) → (is_some a ≡ true → w ≡ true)
    → is_some (option_or o a) ≡ true → (c || w) ≡ true
answered_or (Some x) a c w h k e = rw (h refl) refl
answered_or None a c w h k e = completes_or c w (k e)

tame_step : (s : Step) (trace : List Step) → Mild trace s.event → Tame trace → Tame (s ∷ trace)
unfolding since_head answered
tame_step s trace mild tame = elim (cases_Bool (is_some (head_of s.outcome))) [
  | inl is_head ↦ record {
    unpulled = λ e. rw is_head refl;
    undropped = rw is_head refl;
    whole = λ e. absurd (let n : false ≡ true = rw is_head at e in cc);
  }
  | inr no_head ↦ record {
    unpulled = λ e. let not_up = not_later s trace e in rw no_head (or_false (is_pull s.event) (was_pulled trace) (mild.pulls not_up) (tame.unpulled not_up));
    undropped = rw no_head (or_false (is_drop s.event) (was_dropped trace) mild.drops tame.undropped);
    whole = λ e.
        let e' = rw no_head at e in
        rw no_head (answered_or (answered_by s.event (is_draining trace)) (answered trace) (completes s.event) (is_complete trace)
        (mild.ends (is_draining trace)) tame.whole e');
  }
]

tame_nil : Tame []
unfolding since_head answered
tame_nil = record { unpulled = λ e. refl; undropped = refl; whole = λ (e : false ≡ true). absurd (cc) }

pub all_tame : (setting : Setting) (seen : List Seen) (i : ℕ) → IsHubTrace setting seen → Tame (core_trace i seen)
unfolding core_of
all_tame setting [] i x = tame_nil
all_tame setting (s ∷ before) i x =
    let ih = all_tame setting before i x.1 in
    elim (view_of setting s before x) [
      | inl e ↦ subst Tame (sym (core_opening i s before e)) ih
      | inr m ↦ elim (cases_Bool (i == m.move.number)) [
        | inl same ↦
            let mild : Mild (core_trace i before) m.move.step.event =
            subst (λ (k : ℕ). Mild (core_trace k before) m.move.step.event) (sym (eqb-true i m.move.number same))
            (from_mild setting before m.move.number m.move.step.event m.from) in
            subst Tame (sym (core_own setting i s before m same)) (tame_step m.move.step (core_trace i before) mild ih)
        | inr other ↦ subst Tame (sym (core_other setting i s before m other)) ih
      ]
    ]

-- ---- the rules of a turn

open_unanswered : (requested upgraded complete answered : Bool) → (requested && (upgraded || not complete)) ≡ true → upgraded ≡ false
    → (answered ≡ true → complete ≡ true) → (((requested && (upgraded || not complete)) && not answered) && not upgraded) ≡ true
open_unanswered false u c a e n h = absurd (cc)
open_unanswered true true c a e n h = absurd (cc)
open_unanswered true false true a e n h = absurd (cc)
open_unanswered true false false true e n h = absurd (let x = h refl in cc)
open_unanswered true false false false e n h = refl

-- an open request that isn't upgraded has no answer
pub unanswered : (trace : List Step) → Tame trace → is_open trace ≡ true → is_upgraded trace ≡ false → waits_for_answer trace ≡ true
unanswered trace tame is_opened not_up =
    open_unanswered (is_some (request trace)) (is_upgraded trace) (is_complete trace) (is_some (answered trace)) is_opened not_up tame.whole

pub limit_fits : (setting : Setting) → MAX_FRAME_HEAD ≤ setting.hold_size → nat_le (accept_limit setting + MAX_FRAME_HEAD) setting.hold_size ≡ true
limit_fits setting h = le-leb (accept_limit setting + MAX_FRAME_HEAD) setting.hold_size (omega arith)

socket_allowed : (setting : Setting) (trace : List Step) (room : Bool) (waiting : List Frame) → room ≡ has_room setting trace
    → is_upgraded trace ≡ true → is_allowed_running setting trace (socket_event room waiting) ≡ true
socket_allowed setting trace true (f ∷ fs) e up = rw (up, ← e) refl
socket_allowed setting trace true [] e up = rw up refl
socket_allowed setting trace false waiting e up = rw up refl

request_allowed : (setting : Setting) (trace : List Step) (may_upgrade : Bool) (refusal : Option HandshakeError) → MAX_FRAME_HEAD ≤ setting.hold_size
    → Tame trace → is_open trace ≡ true → is_upgraded trace ≡ false → may_upgrade ≡ asks_raw (request trace)
    → is_allowed_running setting trace (request_event setting may_upgrade refusal) ≡ true
request_allowed setting trace may_upgrade (Some e) fits tame is_opened not_up asks = unanswered trace tame is_opened not_up
request_allowed setting trace true None fits tame is_opened not_up asks =
    rw (unanswered trace tame is_opened not_up, ← asks, tame.unpulled not_up, tame.undropped) (limit_fits setting fits)
request_allowed setting trace false None fits tame is_opened not_up asks = unanswered trace tame is_opened not_up

-- what is allowed while the connection runs is allowed
running_allowed : (setting : Setting) (past : List ParsedStep) (event as_is : Event) → is_over (steps past) ≡ false → is_some (closing setting past) ≡ false
    → event ≡ as_is → is_allowed_running setting (steps past) as_is ≡ true → IsTrue (is_allowed setting past event)
unfolding is_allowed
running_allowed setting past event as_is goes_on runs same ok =
    (λ i. not (goes_on i) && (if runs i then is_allowed_closing (steps past) (same i) else is_allowed_running setting (steps past) (same i))) ∙ ok

pub turn_allowed : (setting : Setting) (past : List ParsedStep) (waiting : List Frame) → MAX_FRAME_HEAD ≤ setting.hold_size
    → Tame (steps past) → is_over (steps past) ≡ false → IsTrue (is_allowed setting past (turn_event setting past waiting))
unfolding turn_event is_allowed
turn_allowed setting past waiting fits tame goes_on = elim (cases_Bool (is_some (closing setting past))) [
  | inl closes ↦ rw (goes_on, closes) refl
  | inr runs ↦ elim (cases_Bool (is_open (steps past))) [
    | inr none_open ↦ rw (goes_on, runs, none_open) refl
    | inl one_open ↦ elim (cases_Bool (is_upgraded (steps past))) [
      | inl up ↦
          running_allowed setting past _ _ goes_on runs (rw (runs, one_open, up) refl)
          (socket_allowed setting (steps past) (has_room setting (steps past)) waiting refl up)
      | inr not_up ↦
          running_allowed setting past _ _ goes_on runs (rw (runs, one_open, not_up) refl)
          (request_allowed setting (steps past) (asks_raw (request (steps past))) (tried (steps past)) fits tame one_open not_up refl)
    ]
  ]
]

pub each_turn : (setting : Setting) (seen : List Seen) (i : ℕ) (event : Event) → MAX_FRAME_HEAD ≤ setting.hold_size → IsHubTrace setting seen
    → is_over (core_trace i seen) ≡ false → IsTurnEvent setting seen i event → IsAllowed setting (core_trace i seen) event
each_turn setting seen i event fits x goes_on turn =
    let tame : Tame (steps turn.0) = subst Tame (sym turn.1.same) (all_tame setting seen i x) in
    let goes_on' : is_over (steps turn.0) ≡ false = subst (λ (t : List Step). is_over t ≡ false) (sym turn.1.same) goes_on in (
      turn.0,
      turn.1,
      subst (λ (e : Event). IsTrue (is_allowed setting turn.0 e)) (sym turn.2)
          (turn_allowed setting turn.0 (row_of i seen).waiting fits tame goes_on'),
    )
