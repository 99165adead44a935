-- What is kept beside a connection is what its trace says.
use Rattle.std.proofs.Common.{◌≡◌, ℕ, Bool, List, [], ◌∷◌, Option, Some, None, refl, sym, ap, ◌∙◌, subst, if◌then◌else◌}
use Rattle.std.specs.Prelude.{is_some, option_map}
use Rattle.std.specs.Option.{option_or}
use Rattle.model_h1.specs.Request.{Head}
use Rattle.model_h1.specs.Handshake.{HandshakeError}
use Rattle.model_h1.specs.Answer.{size_of}
use Rattle.model_h1.specs.Event as on
use Rattle.model_h1.specs.Sums.{Step, head_of, request}
use Rattle.model_h1.specs.Closing.{closing}
use Rattle.model_state.specs.Local.{closing_by}
use Rattle.model_state.proofs.Stands.{fresh_stands}
use Rattle.h1_encoder.specs.Meaning.{answer_of}
use Rattle.h1_connection.proofs.GoesOnLemmas.{closing_traced}
use Rattle.h1_payload.specs.Rests.{fault_of as body_fault_of}
use Rattle.h1_connection.specs.EventMeaning.{setting_of, event_of, end_of, fault_of, failing_of, SaysOutcome}
use Rattle.h1_connection.specs.State.{State, fresh_state, GoesOn}
use Rattle.h1_connection.specs.declared.event.End.{End}
use Rattle.h1_connection.specs.declared.event.Event.{Event}
use Rattle.h1_connection.specs.declared.event.Event.TheVariants as event
use Rattle.h1_connection.specs.declared.event.Outcome.{Outcome}
use Rattle.h1_connection.specs.declared.event.Outcome.TheVariants as out
use Rattle.ws_session.specs.Answers.{refusing_parts}
use Rattle.ws_session.specs.declared.verify.HandshakeError.{HandshakeError as Check}
use Rattle.ws_session.specs.declared.verify.HandshakeError.TheVariants as check
use Rattle.model_rooms.specs.Room.{room_of}
use Rattle.model_rooms.specs.Trace.{Closes}
use Rattle.model_rooms.specs.Turn.{refusal_by, refusal_head, tried}
use Rattle.model_rooms.proofs.RoomLemmas.{room_is_path}
use Rattle.http_config.specs.Config.{Settings}
use Rattle.rooms.specs.Seat.{SeatState, SeatStands, SeatGoesOn, fresh_seat, room_asked, refused_by, refusal_after, room_after}

-- a connection to which nothing came stands for no step
pub fresh_seat_stands : (settings : Settings) → SeatStands (fresh_seat settings) []
unfolding tried request
fresh_seat_stands settings = record { stands = fresh_stands (setting_of settings); refusal_is = refl; room_is = refl }

-- so does a seat with such a connection
pub fresh_stands_with : (settings : Settings) (connection : State) → connection ≡ fresh_state settings
    → SeatStands (record { connection = connection; refusal = None; room = None }) []
fresh_stands_with settings connection is =
    subst (λ (s : State). SeatStands (record { connection = s; refusal = None; room = None }) []) (sym is) (fresh_seat_stands settings)

-- ---- the check that failed

-- an outcome that refuses no upgrade
other_event : (event : on.Event) (o : on.Outcome) → ((limit : ℕ) → refusal_by (on.accept limit) o ≡ None) → refusal_by event o ≡ None
other_event (on.read bytes) o quiet = refl
other_event on.eof o quiet = refl
other_event on.next o quiet = refl
other_event on.pull o quiet = refl
other_event on.drop_body o quiet = refl
other_event on.send_continue o quiet = refl
other_event (on.answer head size) o quiet = refl
other_event (on.chunk bytes) o quiet = refl
other_event on.body_end o quiet = refl
other_event on.body_error o quiet = refl
other_event (on.write n) o quiet = refl
other_event (on.tick ms) o quiet = refl
other_event on.drain o quiet = refl
other_event (on.accept limit) o quiet = quiet limit
other_event (on.send message) o quiet = refl

kept_refusal : (event : on.Event) (out o : on.Outcome) (before : Option HandshakeError) (trace : List Step) → out ≡ o → head_of o ≡ None
    → ((limit : ℕ) → refusal_by (on.accept limit) o ≡ None) → before ≡ tried trace → before ≡ tried (record { event = event; outcome = out } ∷ trace)
unfolding tried
kept_refusal event out o before trace is none quiet e =
    subst (λ (v : on.Outcome). before ≡ (if is_some (head_of v) then None else option_or (refusal_by event v) (tried trace))) (sym is)
    (rw (none, other_event event o quiet) e)

refused_case : (event : Event) (error : Check) (t : Option HandshakeError)
    → refused_by event error t ≡ option_or (refusal_by (event_of event) (on.refused (failing_of error))) t
refused_case (event.Read bytes) error t = refl
refused_case event.Eof error t = refl
refused_case event.Next error t = refl
refused_case event.Pull error t = refl
refused_case event.DropBody error t = refl
refused_case event.Continue error t = refl
refused_case (event.Answer head size) error t = refl
refused_case (event.Chunk bytes) error t = refl
refused_case event.BodyEnd error t = refl
refused_case event.BodyError error t = refl
refused_case (event.Write n) error t = refl
refused_case (event.Tick ms) error t = refl
refused_case event.Drain error t = refl
refused_case (event.Accept limit) error t = refl
refused_case (event.Send message) error t = refl

refused_tried : (event : Event) (error : Check) (out : on.Outcome) (before : Option HandshakeError) (trace : List Step) → out ≡ on.refused (failing_of error)
    → before ≡ tried trace → refused_by event error before ≡ tried (record { event = event_of event; outcome = out } ∷ trace)
unfolding tried
refused_tried event error out before trace is e =
    subst (λ (v : on.Outcome). refused_by event error before ≡ (if is_some (head_of v) then None else option_or (refusal_by (event_of event) v) (tried trace)))
    (sym is) (ap (λ (t : Option HandshakeError). refused_by event error t) e ∙ refused_case event error (tried trace))

new_tried : (event : on.Event) (out : on.Outcome) (h : Head) (trace : List Step) → out ≡ on.head h → None ≡ tried (record { event = event; outcome = out } ∷ trace)
unfolding tried
new_tried event out h trace is =
    subst (λ (v : on.Outcome). None ≡ (if is_some (head_of v) then None else option_or (refusal_by event v) (tried trace))) (sym is) refl

refusal_tried : (event : Event) (outcome : Outcome) (out : on.Outcome) (before : Option HandshakeError) (trace : List Step) → SaysOutcome outcome out
    → before ≡ tried trace → refusal_after event outcome before ≡ tried (record { event = event_of event; outcome = out } ∷ trace)
refusal_tried event (out.Took n) o before trace says e = kept_refusal (event_of event) o (on.took n) before trace says refl (λ l. refl) e
refusal_tried event (out.Head item) o before trace says e = new_tried (event_of event) o says.0 trace says.2
refusal_tried event (out.Bytes bytes) o before trace says e = kept_refusal (event_of event) o (on.bytes bytes) before trace says refl (λ l. refl) e
refusal_tried event (out.Trailers map) o before trace says e = kept_refusal (event_of event) o (on.trailers says.0) before trace says.2 refl (λ l. refl) e
refusal_tried event (out.Frame frame) o before trace says e = kept_refusal (event_of event) o (on.frame frame) before trace says refl (λ l. refl) e
refusal_tried event out.BodyEnd o before trace says e = kept_refusal (event_of event) o on.body_ended before trace says refl (λ l. refl) e
refusal_tried event out.Pending o before trace says e = kept_refusal (event_of event) o on.pending before trace says refl (λ l. refl) e
refusal_tried event (out.Closed end) o before trace says e = kept_refusal (event_of event) o (on.closed (end_of end)) before trace says refl (λ l. refl) e
refusal_tried event (out.Fault fault) o before trace says e = kept_refusal (event_of event) o (on.fault (fault_of fault)) before trace says refl (λ l. refl) e
refusal_tried event (out.Broken fault) o before trace says e = kept_refusal (event_of event) o (on.broken_by (body_fault_of fault)) before trace says refl (λ l. refl) e
refusal_tried event (out.Protocol error) o before trace says e = kept_refusal (event_of event) o (on.protocol says.rule) before trace says.outcome_is refl (λ l. refl) e
refusal_tried event (out.Refused error) o before trace says e = refused_tried event error o before trace says e
refusal_tried event (out.Gave bytes) o before trace says e = kept_refusal (event_of event) o (on.gave bytes) before trace says refl (λ l. refl) e
refusal_tried event (out.Expired end) o before trace says e = kept_refusal (event_of event) o (on.expired (end_of end)) before trace says refl (λ l. refl) e
refusal_tried event out.Abandoned o before trace says e = kept_refusal (event_of event) o on.abandoned before trace says refl (λ l. refl) e
refusal_tried event out.Done o before trace says e = kept_refusal (event_of event) o on.done before trace says refl (λ l. refl) e

-- ---- the room of the last request

kept_room : (event : on.Event) (out o : on.Outcome) (before : Option (List ℕ)) (trace : List Step) → out ≡ o → head_of o ≡ None
    → before ≡ room_asked trace → before ≡ room_asked (record { event = event; outcome = out } ∷ trace)
unfolding request
kept_room event out o before trace is none e =
    subst (λ (v : on.Outcome). before ≡ option_map (λ (h : Head). room_of h.target) (option_or (head_of v) (request trace))) (sym is) (rw none e)

new_room : (event : on.Event) (out : on.Outcome) (h : Head) (path : List ℕ) (trace : List Step) → out ≡ on.head h → path ≡ room_of h.target
    → Some path ≡ room_asked (record { event = event; outcome = out } ∷ trace)
unfolding request
new_room event out h path trace is e =
    subst (λ (v : on.Outcome). Some path ≡ option_map (λ (h : Head). room_of h.target) (option_or (head_of v) (request trace))) (sym is) (ap Some e)

room_asked_after : (event : on.Event) (outcome : Outcome) (out : on.Outcome) (before : Option (List ℕ)) (trace : List Step) → SaysOutcome outcome out
    → before ≡ room_asked trace → room_after outcome before ≡ room_asked (record { event = event; outcome = out } ∷ trace)
room_asked_after event (out.Took n) o before trace says e = kept_room event o (on.took n) before trace says refl e
room_asked_after event (out.Head item) o before trace says e =
    new_room event o says.0 _ trace says.2 (sym (room_is_path says.0.target _ _ _ says.1.uri))
room_asked_after event (out.Bytes bytes) o before trace says e = kept_room event o (on.bytes bytes) before trace says refl e
room_asked_after event (out.Trailers map) o before trace says e = kept_room event o (on.trailers says.0) before trace says.2 refl e
room_asked_after event (out.Frame frame) o before trace says e = kept_room event o (on.frame frame) before trace says refl e
room_asked_after event out.BodyEnd o before trace says e = kept_room event o on.body_ended before trace says refl e
room_asked_after event out.Pending o before trace says e = kept_room event o on.pending before trace says refl e
room_asked_after event (out.Closed end) o before trace says e = kept_room event o (on.closed (end_of end)) before trace says refl e
room_asked_after event (out.Fault fault) o before trace says e = kept_room event o (on.fault (fault_of fault)) before trace says refl e
room_asked_after event (out.Broken fault) o before trace says e = kept_room event o (on.broken_by (body_fault_of fault)) before trace says refl e
room_asked_after event (out.Protocol error) o before trace says e = kept_room event o (on.protocol says.rule) before trace says.outcome_is refl e
room_asked_after event (out.Refused error) o before trace says e = kept_room event o (on.refused (failing_of error)) before trace says refl e
room_asked_after event (out.Gave bytes) o before trace says e = kept_room event o (on.gave bytes) before trace says refl e
room_asked_after event (out.Expired end) o before trace says e = kept_room event o (on.expired (end_of end)) before trace says refl e
room_asked_after event out.Abandoned o before trace says e = kept_room event o on.abandoned before trace says refl e
room_asked_after event out.Done o before trace says e = kept_room event o on.done before trace says refl e

-- ---- a step

pub seat_goes_on : (seat : SeatState) (event : Event) (outcome : Outcome) (after : State) → GoesOn seat.connection (event_of event) (SaysOutcome outcome) after
    → SeatGoesOn seat (event_of event) (SaysOutcome outcome)
    (record { connection = after; refusal = refusal_after event outcome seat.refusal; room = room_after outcome seat.room })
seat_goes_on seat event outcome after goes = λ trace s.
    let g = goes trace s.stands in
    record {
      out = g.0;
      says = g.1;
      answers = g.2;
      stands = record {
        stands = g.3;
        refusal_is = refusal_tried event outcome g.0 seat.refusal trace g.1 s.refusal_is;
        room_is = room_asked_after (event_of event) outcome g.0 seat.room trace g.1 s.room_is;
      };
    }

-- ---- the answer to a refused request

pub refusal_answered : (error : Check) → answer_of (refusing_parts error) ≡ refusal_head (failing_of error)
refusal_answered check.GetMethodRequired = refl
refusal_answered check.NoWebsocketUpgrade = refl
refusal_answered check.NoConnectionUpgrade = refl
refusal_answered check.NoVersionHeader = refl
refusal_answered check.UnsupportedVersion = refl
refusal_answered check.BadWebsocketKey = refl

-- ---- whether it closes

some_mapped : {A B : Type 0} (f : A → B) (o : Option A) → is_some o ≡ is_some (option_map f o)
some_mapped f None = refl
some_mapped f (Some a) = refl

-- what is answered, by the end that the connection tells
pub closes_by : (inside now : SeatState) (closes : Bool) (end : Option End) → inside ≡ now → closes ≡ is_some end
    → option_map end_of end ≡ closing_by (setting_of inside.connection.settings) inside.connection.kept
    → closes ≡ is_some (closing_by (setting_of now.connection.settings) now.connection.kept)
closes_by inside now closes end is answer value =
    answer ∙ some_mapped end_of end ∙ ap is_some value
    ∙ ap (λ (s : SeatState). is_some (closing_by (setting_of s.connection.settings) s.connection.kept)) is

closes_after : (seat : SeatState) (trace : List Step) → SeatStands seat trace
    → Closes (setting_of seat.connection.settings) trace (is_some (closing_by (setting_of seat.connection.settings) seat.connection.kept))
closes_after seat trace s =
    let x = s.stands in
    (x.past, x.of_trace, ap is_some (closing_traced seat.connection trace x.past x x.of_trace))

pub closes_traced : (seat : SeatState) (closes : Bool) → closes ≡ is_some (closing_by (setting_of seat.connection.settings) seat.connection.kept)
    → (trace : List Step) → SeatStands seat trace → Closes (setting_of seat.connection.settings) trace closes
closes_traced seat closes value = λ trace s.
    subst (λ (b : Bool). Closes (setting_of seat.connection.settings) trace b) (sym value) (closes_after seat trace s)

-- a step of the connection, with what is kept of its outcome
pub seat_stepped : (seat old new : SeatState) (event : Event) (outcome : Outcome) (after : State) → old ≡ seat
    → GoesOn old.connection (event_of event) (SaysOutcome outcome) after
    → new ≡ record { connection = after; refusal = refusal_after event outcome old.refusal; room = room_after outcome old.room }
    → SeatGoesOn seat (event_of event) (SaysOutcome outcome) new
seat_stepped seat old new event outcome after is goes new_is =
    subst (λ (s : SeatState). SeatGoesOn s (event_of event) (SaysOutcome outcome) new) is
    (subst (λ (n : SeatState). SeatGoesOn old (event_of event) (SaysOutcome outcome) n) (sym new_is) (seat_goes_on old event outcome after goes))
