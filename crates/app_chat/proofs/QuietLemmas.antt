-- Only a read takes bytes, only a write gives some to be written, and no turn is one of these.
use Rattle.std.proofs.Common.{◌≡◌, ℕ, Bool, true, false, List, [], ◌∷◌, Option, Some, None, refl, ap, ◌∙◌}
use Rattle.std.specs.Prelude.{not, ◌||◌, ◌==◌, is_some, unwrap_or, option_map, option_and_then, slice_get, if◌then◌else◌}
use Rattle.std.proofs.lemmas.Bool.{cond_both}
use Rattle.model_h1.specs.Request.{Header, too_large, Reading, head_is, faulty}
use Rattle.model_h1.specs.Setting.{Setting}
use Rattle.model_h1.specs.Runs.{Run}
use Rattle.model_h1.specs.Frame.{Frame, ProtocolError}
use Rattle.model_h1.specs.FrameText.{PlacedFrame, send_error}
use Rattle.model_h1.specs.Parse as parsed
use Rattle.model_h1.specs.Parse.{Body, no_content, content, frames, Stop, ended_at, still_open, broken, cut}
use Rattle.model_h1.specs.Handshake.{HandshakeError, handshake_error}
use Rattle.model_h1.specs.Event.{Event, Outcome}
use Rattle.model_h1.specs.Event as on
use Rattle.model_h1.specs.End as ends
use Rattle.model_h1.specs.End.{End}
use Rattle.model_h1.specs.Sums.{Step, step_taken, step_written, request, is_open, is_upgraded, is_sending}
use Rattle.model_h1.specs.Past.{ParsedStep, steps, current, upcoming, given_bytes, given_frames, held}
use Rattle.model_h1.specs.Closing.{closing}
use Rattle.model_h1.specs.Allowed.{asks_raw, has_room}
use Rattle.model_h1.specs.OutcomeTable.{head_outcome, upcoming_outcome, next_outcome, run_left, gave_trailers, ended_outcome, stop_outcome, run_outcome, frame_outcome, body_outcome, pull_outcome, tick_outcome, is_abandoned, is_slow, is_idle, send_outcome, outcome_of}
use Rattle.model_h1.specs.Trace.{IsOutcome}
use Rattle.model_rooms.specs.Turn.{request_event, socket_event, tried, turn_event}
use Rattle.app_chat.specs.Moves.{carries}

-- ---- bytes that are taken

pub quiet_taken : (e : Event) (o : Outcome) → carries e ≡ false → step_taken e o ≡ []
quiet_taken (on.read bytes) o quiet = absurd (cc)
quiet_taken on.eof o quiet = refl
quiet_taken on.next o quiet = refl
quiet_taken on.pull o quiet = refl
quiet_taken on.drop_body o quiet = refl
quiet_taken on.send_continue o quiet = refl
quiet_taken (on.answer head size) o quiet = refl
quiet_taken (on.chunk bytes) o quiet = refl
quiet_taken on.body_end o quiet = refl
quiet_taken on.body_error o quiet = refl
quiet_taken (on.write n) o quiet = refl
quiet_taken (on.tick ms) o quiet = refl
quiet_taken on.drain o quiet = refl
quiet_taken (on.accept limit) o quiet = refl
quiet_taken (on.send message) o quiet = refl

-- ---- bytes that are given to be written

abbrev GivesNone : Outcome → Type 0
GivesNone o = step_written o ≡ []

head_none : (r : Reading) → GivesNone (head_outcome r)
head_none (head_is h) = refl
head_none (faulty fault) = refl

upcoming_none : (setting : Setting) (past : List ParsedStep) (m : Option parsed.Message) → GivesNone (upcoming_outcome setting past m)
upcoming_none setting past (Some m) = head_none m.reading
upcoming_none setting past None = cond_both (held past == setting.hold_size) (on.fault too_large) on.pending GivesNone (λ _. refl) (λ _. refl)

next_none : (setting : Setting) (past : List ParsedStep) (end : Option End) → GivesNone (next_outcome setting past end)
next_none setting past (Some end) = refl
next_none setting past None = upcoming_none setting past (upcoming past)

ended_none : (were_given : Bool) (lines : List Header) → GivesNone (ended_outcome were_given lines)
ended_none were_given [] = refl
ended_none were_given (line ∷ more) = cond_both were_given on.body_ended (on.trailers (line ∷ more)) GivesNone (λ _. refl) (λ _. refl)

stop_none : (were_given : Bool) (stop : Stop) → GivesNone (stop_outcome were_given stop)
stop_none were_given (ended_at place trailers) = ended_none were_given trailers
stop_none were_given broken = refl
stop_none were_given cut = refl
stop_none were_given still_open = refl

run_none : (trace : List Step) (stop : Stop) (run : Option Run) → GivesNone (run_outcome trace stop run)
run_none trace stop (Some r) = refl
run_none trace stop None = stop_none (gave_trailers trace) stop

fail_none : (fail : Option ProtocolError) → GivesNone (unwrap_or (option_map on.protocol fail) on.pending)
fail_none None = refl
fail_none (Some e) = refl

frame_none : (fail : Option ProtocolError) (frame : Option PlacedFrame) → GivesNone (frame_outcome fail frame)
frame_none fail (Some f) = refl
frame_none fail None = fail_none fail

body_none : (trace : List Step) (body : Body) → GivesNone (body_outcome trace body)
body_none trace no_content = refl
body_none trace (content runs stop) = run_none trace stop (run_left (given_bytes trace) runs)
body_none trace (frames placed fail) = frame_none fail (slice_get placed (given_frames trace))

pull_none : (trace : List Step) (m : Option parsed.Message) → GivesNone (pull_outcome trace m)
pull_none trace None = refl
pull_none trace (Some m) = body_none trace m.body

tick_none : (setting : Setting) (past : List ParsedStep) (end : Option End) (first ms : ℕ) → GivesNone (tick_outcome setting past end first ms)
tick_none setting past (Some end) first ms =
    cond_both (is_abandoned setting past first ms) on.abandoned on.done GivesNone (λ _. refl) (λ _. refl)
tick_none setting past None first ms =
    cond_both (is_slow setting past first ms) (on.expired ends.slow_request) _ GivesNone (λ _. refl)
    (λ _. cond_both (is_idle setting past first ms) (on.expired ends.keep_alive_expired) on.done GivesNone (λ _. refl) (λ _. refl))

accept_none : (wrong : Option HandshakeError) → GivesNone (unwrap_or (option_map on.refused wrong) on.done)
accept_none None = refl
accept_none (Some e) = refl

send_none : (error : Option ProtocolError) → GivesNone (send_outcome error)
send_none None = refl
send_none (Some e) = refl

table_none : (setting : Setting) (past : List ParsedStep) (e : Event) → carries e ≡ false → GivesNone (outcome_of setting past e)
unfolding outcome_of
table_none setting past (on.read bytes) quiet = refl
table_none setting past on.eof quiet = refl
table_none setting past on.next quiet = next_none setting past (closing setting past)
table_none setting past on.pull quiet = pull_none (steps past) (current past)
table_none setting past on.drop_body quiet = refl
table_none setting past on.send_continue quiet = refl
table_none setting past (on.answer head size) quiet = refl
table_none setting past (on.chunk bytes) quiet = refl
table_none setting past on.body_end quiet = refl
table_none setting past on.body_error quiet = refl
table_none setting past (on.write n) quiet = absurd (cc)
table_none setting past (on.tick ms) quiet = tick_none setting past (closing setting past) _ ms
table_none setting past on.drain quiet = refl
table_none setting past (on.accept limit) quiet = accept_none (option_and_then handshake_error (request (steps past)))
table_none setting past (on.send message) quiet = send_none (send_error (is_sending (steps past)) message)

pub quiet_written : (setting : Setting) (trace : List Step) (e : Event) (o : Outcome) → carries e ≡ false → IsOutcome setting trace e o
    → step_written o ≡ []
quiet_written setting trace e o quiet x = ap step_written x.2 ∙ table_none setting x.0 e quiet

-- ---- turns

abbrev IsQuiet : Event → Type 0
IsQuiet e = carries e ≡ false

socket_quiet : (has_room : Bool) (waiting : List Frame) → IsQuiet (socket_event has_room waiting)
socket_quiet true [] = refl
socket_quiet true (f ∷ fs) = refl
socket_quiet false waiting = refl

request_quiet : (setting : Setting) (may_upgrade : Bool) (refusal : Option HandshakeError) → IsQuiet (request_event setting may_upgrade refusal)
request_quiet setting may_upgrade (Some e) = refl
request_quiet setting true None = refl
request_quiet setting false None = refl

pub turn_quiet : (setting : Setting) (past : List ParsedStep) (waiting : List Frame) → carries (turn_event setting past waiting) ≡ false
unfolding turn_event
turn_quiet setting past waiting =
    let socket = socket_event (has_room setting (steps past)) waiting in
    let asked = request_event setting (asks_raw (request (steps past))) (tried (steps past)) in
    elim (is_some (closing setting past) || not (is_open (steps past)))
    as (λ v. IsQuiet (if v then on.next else (if is_upgraded (steps past) then socket else asked))) [
      | true ↦ refl
      | false ↦ elim (is_upgraded (steps past)) as (λ v. IsQuiet (if v then socket else asked)) [
        | true ↦ socket_quiet (has_room setting (steps past)) waiting
        | false ↦ request_quiet setting (asks_raw (request (steps past))) (tried (steps past))
      ]
    ]
