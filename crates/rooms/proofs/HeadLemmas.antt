-- Only the event that asks for the next head hands one out.
use Rattle.std.proofs.Common.{◌≡◌, ℕ, Bool, true, false, List, [], ◌∷◌, Option, Some, None, Result, Ok, Err, OnErr, refl, sym, ap, ◌∙◌, subst, if◌then◌else◌}
use Rattle.std.specs.Prelude.{unwrap_or, option_map, IsOk}
use Rattle.model_h1.specs.Runs.{Run}
use Rattle.model_h1.specs.Request.{Head, Header}
use Rattle.model_h1.specs.Setting.{Setting}
use Rattle.model_h1.specs.Frame.{ProtocolError}
use Rattle.model_h1.specs.FrameText.{PlacedFrame}
use Rattle.model_h1.specs.Handshake.{HandshakeError}
use Rattle.model_h1.specs.Parse as parsed
use Rattle.model_h1.specs.Parse.{Body, no_content, content, frames, Stop, ended_at, still_open, broken, cut}
use Rattle.model_h1.specs.Event as on
use Rattle.model_h1.specs.End as ends
use Rattle.model_h1.specs.End.{End}
use Rattle.model_h1.specs.Sums.{Step, head_of}
use Rattle.model_h1.specs.Past.{ParsedStep}
use Rattle.model_h1.specs.Trace.{IsOutcome}
use Rattle.model_h1.specs.OutcomeTable.{gave_trailers, ended_outcome, stop_outcome, run_outcome, frame_outcome, body_outcome, pull_outcome, is_abandoned, is_slow, tick_outcome, send_outcome, outcome_of}
use Rattle.h1_connection.specs.EventMeaning.{setting_of, event_of, SaysOutcome}
use Rattle.h1_connection.specs.State.{State, GoesOn, Stands}
use Rattle.h1_connection.specs.declared.event.Event.{Event}
use Rattle.h1_connection.specs.declared.event.Outcome.{Outcome}
use Rattle.h1_connection.specs.declared.event.Outcome.TheVariants as out
use Rattle.rooms.specs.Seat.{SeatState, SeatStands, gives_head}

either_none : (b : Bool) (x y : on.Outcome) → head_of x ≡ None → head_of y ≡ None → head_of (if b then x else y) ≡ None
either_none true x y p q = p
either_none false x y p q = q

ended_none : (b : Bool) (lines : List Header) → head_of (ended_outcome b lines) ≡ None
ended_none b [] = refl
ended_none b (line ∷ more) = either_none b on.body_ended (on.trailers (line ∷ more)) refl refl

stop_none : (b : Bool) (s : Stop) → head_of (stop_outcome b s) ≡ None
stop_none b (ended_at place trailers) = ended_none b trailers
stop_none b broken = refl
stop_none b cut = refl
stop_none b still_open = refl

run_none : (trace : List Step) (s : Stop) (r : Option Run) → head_of (run_outcome trace s r) ≡ None
run_none trace s (Some r) = refl
run_none trace s None = stop_none (gave_trailers trace) s

frame_none : (fail : Option ProtocolError) (f : Option PlacedFrame) → head_of (frame_outcome fail f) ≡ None
frame_none fail (Some f) = refl
frame_none (Some e) None = refl
frame_none None None = refl

body_none : (trace : List Step) (b : Body) → head_of (body_outcome trace b) ≡ None
body_none trace no_content = refl
body_none trace (content runs stop) = run_none trace stop _
body_none trace (frames placed fail) = frame_none fail _

pull_none : (trace : List Step) (m : Option parsed.Message) → head_of (pull_outcome trace m) ≡ None
pull_none trace None = refl
pull_none trace (Some m) = body_none trace m.body

tick_none : (setting : Setting) (past : List ParsedStep) (end : Option End) (first ms : ℕ) → head_of (tick_outcome setting past end first ms) ≡ None
tick_none setting past (Some end) first ms = either_none (is_abandoned setting past first ms) on.abandoned on.done refl refl
tick_none setting past None first ms =
    either_none (is_slow setting past first ms) (on.expired ends.slow_request) _ refl (either_none _ (on.expired ends.keep_alive_expired) on.done refl refl)

refused_none : (e : Option HandshakeError) → head_of (unwrap_or (option_map on.refused e) on.done) ≡ None
refused_none (Some e) = refl
refused_none None = refl

send_none : (e : Option ProtocolError) → head_of (send_outcome e) ≡ None
send_none (Some e) = refl
send_none None = refl

no_head : (setting : Setting) (past : List ParsedStep) (event : on.Event) → (event ≡ on.next → ⊥) → head_of (outcome_of setting past event) ≡ None
unfolding outcome_of
no_head setting past (on.read bytes) other = refl
no_head setting past on.eof other = refl
no_head setting past on.next other = absurd (other refl)
no_head setting past on.pull other = pull_none _ _
no_head setting past on.drop_body other = refl
no_head setting past on.send_continue other = refl
no_head setting past (on.answer head size) other = refl
no_head setting past (on.chunk bytes) other = refl
no_head setting past on.body_end other = refl
no_head setting past on.body_error other = refl
no_head setting past (on.write n) other = refl
no_head setting past (on.tick ms) other = tick_none setting past _ _ ms
no_head setting past on.drain other = refl
no_head setting past (on.accept limit) other = refused_none _
no_head setting past (on.send message) other = send_none _

-- an outcome that hands out a head is none of another event
pub head_of_next : (state after : State) (event : on.Event) (outcome : Outcome) (trace : List Step) → GoesOn state event (SaysOutcome outcome) after
    → Stands state trace → gives_head outcome ≡ true → (event ≡ on.next → ⊥) → ⊥
head_of_next state after event (out.Head item) trace goes stands gives other =
    let g = goes trace stands in
    absurd
    (let none : head_of g.0 ≡ None = ap head_of g.2.2 ∙ no_head (setting_of state.settings) g.2.0 event other in
    let some : head_of g.0 ≡ Some g.1.0 = ap head_of g.1.2 in
    let bad : None ≡ Some g.1.0 = sym none ∙ some in cc)
head_of_next state after event (out.Took n) trace goes stands gives other = absurd (cc)
head_of_next state after event (out.Bytes bytes) trace goes stands gives other = absurd (cc)
head_of_next state after event (out.Trailers map) trace goes stands gives other = absurd (cc)
head_of_next state after event (out.Frame frame) trace goes stands gives other = absurd (cc)
head_of_next state after event out.BodyEnd trace goes stands gives other = absurd (cc)
head_of_next state after event out.Pending trace goes stands gives other = absurd (cc)
head_of_next state after event (out.Closed end) trace goes stands gives other = absurd (cc)
head_of_next state after event (out.Fault fault) trace goes stands gives other = absurd (cc)
head_of_next state after event (out.Broken fault) trace goes stands gives other = absurd (cc)
head_of_next state after event (out.Protocol error) trace goes stands gives other = absurd (cc)
head_of_next state after event (out.Refused error) trace goes stands gives other = absurd (cc)
head_of_next state after event (out.Gave bytes) trace goes stands gives other = absurd (cc)
head_of_next state after event (out.Expired end) trace goes stands gives other = absurd (cc)
head_of_next state after event out.Abandoned trace goes stands gives other = absurd (cc)
head_of_next state after event out.Done trace goes stands gives other = absurd (cc)

-- so a seat hands none out
pub no_head_of_other : (seat old : SeatState) (event : on.Event) (outcome : Outcome) (after : State) → old ≡ seat → GoesOn old.connection event (SaysOutcome outcome) after
    → gives_head outcome ≡ true → (trace : List Step) → SeatStands seat trace → (event ≡ on.next → ⊥) → ⊥
no_head_of_other seat old event outcome after is goes gives trace s other =
    head_of_next old.connection after event outcome trace goes (subst (λ (x : SeatState). Stands x.connection trace) (sym is) s.stands) gives other

-- what holds anyway holds of an error
pub on_err : {A E P : Type 0} (r : Result A E) → P → OnErr r P
on_err (Ok a) p = tt
on_err (Err e) p = p
