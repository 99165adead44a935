-- What the calls of a hub promise, by what it holds inside.
use Rattle.std.proofs.Common.{◌≡◌, ◌<◌, ◌≤◌, ℕ, zero, suc, Bool, true, List, [], ◌∷◌, length, get_or, Option, Some, None, Result, Ok, Err, inl, inr, refl, sym, ap, ◌∙◌, subst, arith}
use Rattle.std.proofs.Math.ListN.{set}
use Rattle.std.specs.Prelude.{slice_get, IfOk, IsOk, OnErr, IsTrue}
use Rattle.std.proofs.lemmas.Option.{slice_get_read, slice_get_within}
use Rattle.http_config.specs.Config.{Settings}
use Rattle.model_h1.specs.Event as on
use Rattle.model_h1.specs.Frame.{Message}
use Rattle.model_state.specs.Local.{allowed_by}
use Rattle.h1_connection.specs.EventMeaning.{setting_of, event_of}
use Rattle.h1_connection.specs.State.{State}
use Rattle.h1_connection.specs.declared.connection.frames.Sent.{Sent}
use Rattle.h1_connection.specs.declared.event.Event.{Event}
use Rattle.h1_connection.specs.declared.event.Outcome.{Outcome}
use Rattle.model_rooms.specs.Hub.{HubEvent, HubOutcome, opens, feeds, turns, MAX_CONNECTIONS}
use Rattle.model_rooms.specs.Member.{Member, member_at}
use Rattle.model_rooms.specs.Seen.{Seen}
use Rattle.model_rooms.specs.Trace.{is_fed, core_trace}
use Rattle.rooms.specs.Seat.{SeatState}
use Rattle.rooms.specs.Turn.{first_message, asked_by, IsAsked, sending}
use Rattle.rooms.specs.declared.seat.HubTurn.{HubTurn as SeatTurn}
use Rattle.rooms.specs.Hub.{HubState, HubStands, HubGoesOn, HubRefuses, HubTurns, HubSends, IsRefused, RefusesAtOnce, SaysCore, SaysHubOutcome}
use Rattle.rooms.specs.Moves.{Takes, SendsNone, Sends}
use Rattle.rooms.specs.declared.event.HubOutcome.TheVariants.{Core}
use Rattle.rooms.proofs.TurnLemmas.{over_none}
use Rattle.rooms.proofs.HubLemmas.{hub_turned, hub_not_turned}
use Rattle.rooms.proofs.FirstLemmas.{may_be_fed}
use Rattle.rooms.proofs.WaitLemmas.{member_beyond}

-- a hub of these parts
abbrev pub hub_of : Settings → List SeatState → List Member → HubState
hub_of settings seats rows = record { settings = settings; seats = seats; members = rows }

-- it refuses, and nothing changes
pub refused_call : (inside hub : HubState) (event : HubEvent) → inside ≡ hub → HubRefuses inside event → (hub ≡ hub) × HubRefuses hub event
refused_call inside hub event is refused = (refl, subst (λ (h : HubState). HubRefuses h event) is refused)

-- it goes on
pub goes_call : (inside hub : HubState) (settings : Settings) (seats seats_by : List SeatState) (rows rows_by : List Member) (event : HubEvent)
    (Says : HubOutcome → Type 0) → inside ≡ hub → seats ≡ seats_by → rows ≡ rows_by
    → HubGoesOn inside event Says (hub_of settings seats_by rows_by) → HubGoesOn hub event Says (hub_of settings seats rows)
goes_call inside hub settings seats seats_by rows rows_by event Says is seats_are rows_are goes =
    subst (λ (h : HubState). HubGoesOn h event Says (hub_of settings seats rows)) is
    (subst (λ (s : List SeatState). HubGoesOn inside event Says (hub_of settings s rows)) (sym seats_are)
    (subst (λ (r : List Member). HubGoesOn inside event Says (hub_of settings seats_by r)) (sym rows_are) goes))

-- the seat at a place
pub seat_at : (i : ℕ) (seats : List SeatState) (seat : SeatState) → i < length seats → seat ≡ get_or seats i seat → slice_get seats i ≡ Some seat
seat_at i seats seat inside is = slice_get_read seats (length seats) i seat refl inside is

-- what was at a place, put there again
pub set_kept : (i : ℕ) (seats : List SeatState) (seat : SeatState) → i < length seats → seat ≡ get_or seats i seat → set seats i seat ≡ seats
set_kept i [] seat inside is = absurd (omega arith)
set_kept zero (s ∷ seats) seat inside is = ap (λ (v : SeatState). v ∷ seats) is
set_kept (suc i) (s ∷ seats) seat inside is = ap (λ (l : List SeatState). s ∷ l) (set_kept i seats seat (omega arith) is)

-- it refuses what comes to the seat at a place, and nothing changes
pub refused_at : (hub : HubState) (settings : Settings) (seats seats_then : List SeatState) (rows rows_then : List Member) (event : HubEvent)
    → hub_of settings seats rows ≡ hub → seats_then ≡ seats → rows_then ≡ rows → HubRefuses (hub_of settings seats rows) event
    → (hub_of settings seats_then rows_then ≡ hub) × HubRefuses hub event
refused_at hub settings seats seats_then rows rows_then event is seats_are rows_are refused = (
  ap (λ (s : List SeatState). hub_of settings s rows_then) seats_are ∙ ap (λ (r : List Member). hub_of settings seats r) rows_are ∙ is,
  subst (λ (h : HubState). HubRefuses h event) is refused,
)

-- a turn of the seat at a place, or none
pub takes_call : {E : Type 0} (r : Result (Option SeatTurn) E) (hub : HubState) (settings : Settings) (seats : List SeatState) (rows rows_then : List Member) (i : ℕ)
    (seat after : SeatState) → hub_of settings seats rows ≡ hub → i < length seats → seat ≡ get_or seats i seat
    → IfOk r (λ turn. Takes seat rows i turn after rows_then) → after.connection.settings ≡ seat.connection.settings
    → IfOk r (λ turn. HubTurns hub i turn (hub_of settings (set seats i after) rows_then))
takes_call (Err e) hub settings seats rows rows_then i seat after is inside at taken same = tt
takes_call (Ok None) hub settings seats rows rows_then i seat after is inside at taken same =
    let there = seat_at i seats seat inside at in
    let kept = ap (λ (s : SeatState). set seats i s) taken.0.0 ∙ set_kept i seats seat inside at in
    refused_at hub settings seats (set seats i after) rows rows_then (turns i) is kept taken.1
    (hub_not_turned (hub_of settings seats rows) rows_then i seat after there taken)
takes_call (Ok (Some turn)) hub settings seats rows rows_then i seat after is inside at taken same =
    let there = seat_at i seats seat inside at in
    let new = set seats i after in
    goes_call (hub_of settings seats rows) hub settings new new rows_then rows_then (turns i) (SaysCore (event_of turn.event) turn.outcome) is refl refl
    (hub_turned (hub_of settings seats rows) rows_then i seat after turn there taken same)

-- where a turn is refused, no event is asked for
turn_refused : (hub : HubState) (i : ℕ) (seat : SeatState) (front : Option Message) (seen : List Seen) → HubStands hub seen → slice_get hub.seats i ≡ Some seat
    → IsRefused (setting_of hub.settings) seen (turns i) → IsAsked seat.connection (asked_by seat front) None
turn_refused hub i seat front seen x there (inl past) = absurd (omega (arith, past, x.count, slice_get_within hub.seats i seat there))
turn_refused hub i seat front seen x there (inr over) = over_none seat front (core_trace i seen) (x.seats i seat there).stands over

pub refused_turn : {A E : Type 0} (r : Result A E) (hub : HubState) (settings : Settings) (seats : List SeatState) (rows : List Member) (i : ℕ) (seat : SeatState)
    → hub_of settings seats rows ≡ hub → i < length seats → seat ≡ get_or seats i seat
    → (IsAsked seat.connection (asked_by seat (first_message (member_at i rows).waiting)) None → IsOk r) → RefusesAtOnce hub (turns i) r
refused_turn r hub settings seats rows i seat is inside at light =
    subst (λ (h : HubState). RefusesAtOnce h (turns i) r) is
    (λ seen x refused. light (turn_refused (hub_of settings seats rows) i seat (first_message (member_at i rows).waiting) seen x (seat_at i seats seat inside at) refused))

-- what its connection answers
pub allowed_in : (inside connection : State) (answer v : Bool) (event : on.Event) → inside ≡ connection
    → answer ≡ allowed_by (setting_of inside.settings) inside.kept event → answer ≡ v
    → allowed_by (setting_of connection.settings) connection.kept event ≡ v
allowed_in inside connection answer v event is by test =
    sym (by ∙ ap (λ (s : State). allowed_by (setting_of s.settings) s.kept event) is) ∙ test

-- it doesn't refuse an event that its connection allows
pub takes_fed : (inside hub : HubState) (i : ℕ) (seat : SeatState) (event : on.Event) → inside ≡ hub → slice_get inside.seats i ≡ Some seat
    → IsTrue (is_fed event) → allowed_by (setting_of seat.connection.settings) seat.connection.kept event ≡ true
    → (seen : List Seen) → HubStands hub seen → IsRefused (setting_of hub.settings) seen (feeds i event) → ⊥
takes_fed inside hub i seat event is there fed allowed =
    subst (λ (h : HubState). (seen : List Seen) → HubStands h seen → IsRefused (setting_of h.settings) seen (feeds i event) → ⊥) is
    (λ seen x refused. may_be_fed inside i seat event seen there fed allowed x refused)

-- nor a connection where there is room
pub takes_opening : (inside hub : HubState) → inside ≡ hub → length inside.seats < MAX_CONNECTIONS → (seen : List Seen) → HubStands hub seen
    → IsRefused (setting_of hub.settings) seen opens → ⊥
takes_opening inside hub is few =
    subst (λ (h : HubState). (seen : List Seen) → HubStands h seen → IsRefused (setting_of h.settings) seen opens → ⊥) is
    (λ seen x refused. omega (arith, few, x.count, refused))

-- the same as a value: an event and an outcome that are copies
pub as_value : (hub after : HubState) (event : HubEvent) (given copy : Event) (outcome boxed : Outcome) → copy ≡ given → boxed ≡ outcome
    → HubGoesOn hub event (SaysCore (event_of given) outcome) after → HubGoesOn hub event (SaysHubOutcome (Core copy boxed)) after
as_value hub after event given copy outcome boxed same alike goes =
    subst (λ (e : Event). HubGoesOn hub event (SaysCore (event_of e) boxed) after) (sym same)
    (subst (λ (o : Outcome). HubGoesOn hub event (SaysCore (event_of given) o) after) (sym alike) goes)

-- ---- a turn that sends a message

none_at : (seats : List SeatState) (rows : List Member) (i : ℕ) (seat : SeatState) → slice_get seats i ≡ Some seat → SendsNone seat rows i
    → (s : SeatState) → slice_get seats i ≡ Some s → SendsNone s rows i
none_at seats rows i seat there none = λ s other.
    let found : Some seat ≡ Some s = sym there ∙ other in
    let same : seat ≡ s = cc in
    subst (λ (v : SeatState). SendsNone v rows i) same none

-- no connection has this number
pub sends_unknown : (inside hub : HubState) (i : ℕ) → inside ≡ hub → length inside.seats ≤ i → HubSends hub i None hub
sends_unknown inside hub i is past =
    subst (λ (h : HubState). HubSends h i None h) is (refl, λ s there. absurd (omega (arith, past, slice_get_within inside.seats i s there)))

-- no row has it, so nothing waits
pub sends_unseen : (inside hub : HubState) (i : ℕ) → inside ≡ hub → length inside.members ≤ i → HubSends hub i None hub
sends_unseen inside hub i is past =
    subst (λ (h : HubState). HubSends h i None h) is
    (refl, λ s there. inl (ap (λ (m : Member). first_message m.waiting) (member_beyond i inside.members past)))

-- the seat at a place sends a message, or none
pub sends_call : {E : Type 0} (r : Result (Option Sent) E) (hub : HubState) (settings : Settings) (seats : List SeatState) (rows rows_then : List Member) (i : ℕ)
    (seat after : SeatState) → hub_of settings seats rows ≡ hub → i < length seats → seat ≡ get_or seats i seat
    → IfOk r (λ sent. Sends seat rows i sent after rows_then) → after.connection.settings ≡ seat.connection.settings
    → IfOk r (λ sent. HubSends hub i sent (hub_of settings (set seats i after) rows_then))
sends_call (Err e) hub settings seats rows rows_then i seat after is inside at sends same = tt
sends_call (Ok None) hub settings seats rows rows_then i seat after is inside at sends same =
    let kept = ap (λ (s : SeatState). set seats i s) sends.1 ∙ set_kept i seats seat inside at in (
      ap (λ (s : List SeatState). hub_of settings s rows_then) kept ∙ ap (λ (r : List Member). hub_of settings seats r) sends.2 ∙ is,
      subst (λ (h : HubState). (s : SeatState) → slice_get h.seats i ≡ Some s → SendsNone s h.members i) is
          (none_at seats rows i seat (seat_at i seats seat inside at) sends.0),
    )
sends_call (Ok (Some what)) hub settings seats rows rows_then i seat after is inside at sends same =
    let turn = sending sends.0 what in
    let new = set seats i after in (
      sends.0,
      goes_call (hub_of settings seats rows) hub settings new new rows_then rows_then (turns i) (SaysCore (event_of turn.event) turn.outcome) is refl refl
          (hub_turned (hub_of settings seats rows) rows_then i seat after turn (seat_at i seats seat inside at) sends.1 same),
    )

-- where it fails, nothing changes
pub failed_call : {A E : Type 0} (r : Result A E) (hub : HubState) (settings : Settings) (seats : List SeatState) (rows rows_then : List Member) (i : ℕ)
    (seat after : SeatState) → hub_of settings seats rows ≡ hub → i < length seats → seat ≡ get_or seats i seat
    → OnErr r ((after ≡ seat) × (rows_then ≡ rows)) → OnErr r (hub_of settings (set seats i after) rows_then ≡ hub)
failed_call (Ok x) hub settings seats rows rows_then i seat after is inside at failed = tt
failed_call (Err e) hub settings seats rows rows_then i seat after is inside at failed =
    let kept = ap (λ (s : SeatState). set seats i s) failed.0 ∙ set_kept i seats seat inside at in
    ap (λ (s : List SeatState). hub_of settings s rows_then) kept ∙ ap (λ (r : List Member). hub_of settings seats r) failed.1 ∙ is
