-- A turn by questions is the turn of the rules.
use Rattle.std.proofs.Common.{◌≡◌, ◌≤◌, ℕ, Bool, true, false, List, [], ◌∷◌, IsTrue, Option, Some, None, refl, sym, ap, ◌∙◌, subst, inl, inr, if◌then◌else◌}
use Rattle.std.specs.Prelude.{not, ◌&&◌, is_some}
use Rattle.std.proofs.lemmas.Bool.{cases_Bool}
use Rattle.model_h1.specs.Limits.{MAX_FRAME_HEAD}
use Rattle.model_h1.specs.Setting.{Setting}
use Rattle.model_h1.specs.Frame.{Frame, Message}
use Rattle.model_h1.specs.Frame as frames
use Rattle.model_h1.specs.Handshake.{HandshakeError}
use Rattle.model_h1.specs.Event as on
use Rattle.model_h1.specs.Sums.{Step}
use Rattle.model_h1.specs.Past.{ParsedStep, steps}
use Rattle.model_h1.specs.Closing.{closing}
use Rattle.model_h1.specs.Allowed.{is_over, is_allowed}
use Rattle.model_h1.specs.Trace as traces
use Rattle.model_state.specs.Kept.{Kept}
use Rattle.model_state.specs.Local.{allowed_by}
use Rattle.model_state.specs.StandsFor.{StandsFor}
use Rattle.model_state.proofs.Stands.{allowed_stands, allowed_of_trace}
use Rattle.h1_connection.specs.EventMeaning.{setting_of, event_of, SaysOutcome}
use Rattle.h1_connection.specs.State.{IsAllowed}
use Rattle.h1_connection.specs.declared.event.Event.{Event}
use Rattle.model_rooms.specs.Seen.{Seen, row_of}
use Rattle.model_rooms.specs.Trace.{core_trace, IsTurnEvent}
use Rattle.model_rooms.specs.Turn.{tried, socket_event, turn_event, asked_event}
use Rattle.model_rooms.proofs.AskLemmas.{each_turn_asks}
use Rattle.model_rooms.proofs.TurnLemmas.{each_turn}
use Rattle.rooms.specs.Seat.{SeatState, SeatStands, IsUsable, SeatGoesOn}
use Rattle.rooms.proofs.AskLemmas.{none_asked}
use Rattle.rooms.specs.Turn.{allows, sent_by, may_accept, limit_of, answer_by, asked_by, first_message, IsSeatOf, IsTurnOf, TurnsBy, IsAsked}
use Rattle.rooms.specs.declared.seat.HubTurn.{HubTurn}

-- what is kept allows what the past does
allows_same : (setting : Setting) (k : Kept) (trace : List Step) (x : StandsFor setting k trace) → allowed_by setting k ≡ is_allowed setting x.past
allows_same setting k trace x =
    let here : (e : on.Event) → allowed_by setting k e ≡ is_allowed setting x.past e =
    λ e. ap (λ (k : Kept). allowed_by setting k e) x.parts ∙ allowed_stands setting x.past trace e x.traced x.of_trace in
    λ i. λ e. here e i

-- of what waits the first frame counts
socket_same : (room : Bool) (waiting : List Frame) → socket_event room waiting ≡ sent_by room (first_message waiting)
socket_same true [] = refl
socket_same true (f ∷ fs) = refl
socket_same false [] = refl
socket_same false (f ∷ fs) = refl

asked_same : (seat : SeatState) (waiting : List Frame)
    → asked_event (allows seat) (setting_of seat.connection.settings) seat.refusal waiting ≡ asked_by seat (first_message waiting)
asked_same seat waiting =
    ap (λ (e : on.Event). if allows seat on.next then on.next
    else (if may_accept seat then on.accept (limit_of seat)
    else (if allows seat (answer_by seat) then answer_by seat else e)))
    (socket_same (allows seat (on.send frames.nop)) waiting)

-- the event by the rules is the one that is asked for
pub turn_of : (seat : SeatState) (front : Option Message) (seen : List Seen) (i : ℕ) → MAX_FRAME_HEAD ≤ seat.connection.settings.h1_hold_size
    → is_over (core_trace i seen) ≡ false → (x : IsSeatOf seat front seen i)
    → turn_event (setting_of seat.connection.settings) x.stands.stands.past (row_of i seen).waiting ≡ asked_by seat front
turn_of seat front seen i fits goes_on x =
    let setting = setting_of seat.connection.settings in
    let waiting = (row_of i seen).waiting in
    let s = x.stands.stands in
    each_turn_asks setting seen i s.past waiting fits x.hub goes_on s.of_trace
    ∙ ap (λ (allows : on.Event → Bool). asked_event allows setting (tried (core_trace i seen)) waiting)
    (sym (allows_same setting seat.connection.kept (core_trace i seen) s))
    ∙ ap (λ (r : Option HandshakeError). asked_event (allows seat) setting r waiting) (sym x.stands.refusal_is)
    ∙ asked_same seat waiting
    ∙ ap (λ (m : Option Message). asked_by seat m) x.waits

-- where an event is allowed the connection isn't over
not_over : (setting : Setting) (past : List ParsedStep) (event : on.Event) → IsTrue (is_allowed setting past event) → is_over (steps past) ≡ false
unfolding is_allowed
not_over setting past event a = elim (cases_Bool (is_over (steps past))) [
  | inl over ↦ absurd (let e : false ≡ true = rw over at a in cc)
  | inr goes ↦ goes
]

pub goes_on : (setting : Setting) (trace : List Step) (event : on.Event) → traces.IsAllowed setting trace event → is_over trace ≡ false
goes_on setting trace event a = subst (λ (t : List Step). is_over t ≡ false) a.1.same (not_over setting a.0 event a.2)

-- a turn is that of the rules
pub turned : (seat after : SeatState) (front : Option Message) (turn : HubTurn) → MAX_FRAME_HEAD ≤ seat.connection.settings.h1_hold_size
    → IsAsked seat.connection (asked_by seat front) (Some turn.event)
    → SeatGoesOn seat (event_of turn.event) (SaysOutcome turn.outcome) after
    → TurnsBy seat front (Some turn) after
turned seat after front turn fits asked goes = λ seen i x.
    let setting = setting_of seat.connection.settings in
    let s = x.stands.stands in
    let may : traces.IsAllowed setting (core_trace i seen) (event_of turn.event) =
    (allowed_of_trace setting seat.connection.kept (core_trace i seen) (event_of turn.event) s).0 asked.1 in
    record {
      by_rules = (
        s.past,
        s.of_trace,
        asked.0 ∙ sym (turn_of seat front seen i fits (goes_on setting (core_trace i seen) (event_of turn.event) may) x),
      );
      allowed = may;
      goes = goes (core_trace i seen) x.stands;
    }

-- where there is none the connection is over
pub no_turn : (seat : SeatState) (front : Option Message) → MAX_FRAME_HEAD ≤ seat.connection.settings.h1_hold_size
    → IsAsked seat.connection (asked_by seat front) None → TurnsBy seat front None seat
no_turn seat front fits asked = (
  refl,
  λ seen i x.
      let setting = setting_of seat.connection.settings in
      let s = x.stands.stands in
      let trace = core_trace i seen in
      elim (cases_Bool (is_over trace)) [
        | inl over ↦ over
        | inr runs ↦
            absurd
            (let event = turn_event setting s.past (row_of i seen).waiting in
            let turn : IsTurnEvent setting seen i event = (s.past, s.of_trace, refl) in
            let may : traces.IsAllowed setting trace event = each_turn setting seen i event fits x.hub runs turn in
            let pulls : traces.IsAllowed setting trace on.pull =
            subst (λ (e : on.Event). traces.IsAllowed setting trace e) (turn_of seat front seen i fits runs x ∙ asked.0) may in
            let yes : allowed_by setting seat.connection.kept on.pull ≡ true = (allowed_of_trace setting seat.connection.kept trace on.pull s).1 pulls in
            let bad : true ≡ false = sym yes ∙ asked.1 in cc)
      ],
)

-- what holds of the settings inside holds of the seat
pub holds_of : (limit : ℕ) (old seat : SeatState) → old ≡ seat → IsUsable limit old.connection.settings
    → MAX_FRAME_HEAD ≤ seat.connection.settings.h1_hold_size
holds_of limit old seat is usable = subst (λ (s : SeatState). MAX_FRAME_HEAD ≤ s.connection.settings.h1_hold_size) is usable.holds

-- where the connection is over nothing is allowed, and no event is asked for
never_over : (seat : SeatState) (trace : List Step) → SeatStands seat trace → is_over trace ≡ true → (e : on.Event) → allows seat e ≡ false
never_over seat trace x over e =
    let setting = setting_of seat.connection.settings in
    elim (cases_Bool (allows seat e)) [
      | inl may ↦
          absurd
          (let runs : is_over trace ≡ false = goes_on setting trace e ((allowed_of_trace setting seat.connection.kept trace e x.stands).0 may) in
          let bad : true ≡ false = sym over ∙ runs in cc)
      | inr cannot ↦ cannot
    ]

pub over_none : (seat : SeatState) (front : Option Message) (trace : List Step) → SeatStands seat trace → is_over trace ≡ true
    → IsAsked seat.connection (asked_by seat front) None
over_none seat front trace x over = none_asked seat front (never_over seat trace x over)
