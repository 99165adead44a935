-- What the calls of a hub lead to.
use Rattle.std.proofs.Common.{◌≡◌, ◌<◌, ◌≤◌, ◌⊎◌, ℕ, ◌+◌, ◌==◌, false, List, [], ◌∷◌, ◌++◌, length, IsTrue, Some, None, refl, sym, ap, ◌∙◌, subst, inl, inr, get_or, arith, length-append}
use Rattle.std.proofs.Math.ListN.{set}
use Rattle.std.proofs.Math.Seq.{get_or-append_seam}
use Rattle.std.proofs.lemmas.List.{get_or_append_left}
use Rattle.std.specs.Prelude.{slice_get}
use Rattle.std.proofs.lemmas.Bool.{cases_Bool, eqb-true, ltb-true, ltb-false}
use Rattle.std.specs.Prelude.{nat_lt}
use Rattle.std.proofs.lemmas.Option.{slice_get_within, slice_get_read, get_or_from_slice_get}
use Rattle.http_config.specs.Config.{Settings}
use Rattle.model_h1.specs.Setting.{Setting}
use Rattle.model_h1.specs.Event as on
use Rattle.model_h1.specs.Sums.{Step, request}
use Rattle.model_h1.specs.Trace as traces
use Rattle.model_state.specs.Local.{allowed_by}
use Rattle.model_state.proofs.Stands.{allowed_of_trace, misplaced_of_trace}
use Rattle.h1_connection.specs.EventMeaning.{setting_of, event_of, SaysOutcome}
use Rattle.h1_connection.specs.State.{IsAllowed}
use Rattle.h1_connection.specs.declared.event.Event.{Event}
use Rattle.h1_connection.specs.declared.event.Outcome.{Outcome}
use Rattle.model_rooms.specs.Hub.{HubEvent, opens, feeds, turns, opened, core, move_by, counted, open_count, core_of, MAX_CONNECTIONS}
use Rattle.model_rooms.specs.Member.{Member, newcomer, with_opened, member_at}
use Rattle.model_rooms.specs.Seen.{Seen, steps_of, members_of}
use Rattle.model_rooms.specs.Trace.{is_fed, core_trace, IsTurnEvent, Closes, GoesOn, IsHubStep, IsHubTrace}
use Rattle.model_rooms.proofs.RowLemmas.{length-members}
use Rattle.model_rooms.proofs.StepViews.{view_of, core_opening, core_other}
use Rattle.rooms.specs.Seat.{SeatState, SeatStands, SeatGoesOn, fresh_seat, GoesOnAfter as SeatGoes}
use Rattle.rooms.specs.Turn.{first_message, IsSeatOf}
use Rattle.rooms.specs.declared.seat.HubTurn.{HubTurn as SeatTurn}
use Rattle.rooms.proofs.KeptLemmas.{fresh_seat_stands, closes_traced}
use Rattle.rooms.specs.Hub.{HubState, HubStands, GoesOnAfter, HubGoesOn, HubRefuses, SaysCore}
use Rattle.rooms.specs.Moves.{closes_by, moved, followed, Takes}
use Rattle.rooms.proofs.RowLemmas.{rows_moved, rows_followed}
use Rattle.rooms.proofs.StandLemmas.{hub_moved, accept_of_request, room_before}

-- ---- numbers

-- how many rows there are
pub row_count : (hub : HubState) (seen : List Seen) → HubStands hub seen → length hub.members ≡ open_count (steps_of seen)
row_count hub seen x = ap length x.members_are ∙ length-members seen

-- a connection with a number that wasn't given is refused
pub unknown : (hub : HubState) (i : ℕ) (event : on.Event) → (length hub.seats ≤ i) ⊎ (length hub.members ≤ i)
    → HubRefuses hub (feeds i event) × HubRefuses hub (turns i)
unknown hub i event (inl past) = (λ seen x. inl (omega (arith, x.count)), λ seen x. inl (omega (arith, x.count)))
unknown hub i event (inr past) = (λ seen x. inl (omega (arith, row_count hub seen x)), λ seen x. inl (omega (arith, row_count hub seen x)))

-- ---- a connection goes on

hub_goes : (hub : HubState) (rows : List Member) (i : ℕ) (seat after : SeatState) (event : Event) (outcome : Outcome) (hub_event : HubEvent) (seen : List Seen)
    → HubStands hub seen → slice_get hub.seats i ≡ Some seat
    → traces.IsAllowed (setting_of seat.connection.settings) (core_trace i seen) (event_of event)
    → (g : SeatGoes seat (core_trace i seen) (event_of event) (SaysOutcome outcome) after)
    → after.connection.settings ≡ seat.connection.settings
    → rows ≡ followed event outcome after i hub.members
    → move_by hub_event (core (event_of event) g.out) ≡ Some (record { number = i; step = record { event = event_of event; outcome = g.out } })
    → ((ms : List Member) → with_opened hub_event ms ≡ ms) → ((n : ℕ) → counted hub_event n ≡ n)
    → (GoesOn (setting_of hub.settings) seen i (event_of event) g.out (closes_by after)
    → IsHubStep (setting_of hub.settings) seen hub_event (core (event_of event) g.out) (closes_by after))
    → GoesOnAfter hub seen hub_event (SaysCore (event_of event) outcome) (record { settings = hub.settings; seats = set hub.seats i after; members = rows })
hub_goes hub rows i seat after event outcome hub_event seen x there may g same rows_are move no_row no_count step =
    let at = x.seats i seat there in
    let trace = core_trace i seen in
    let e = event_of event in
    let asked = request trace in
    let set_same : setting_of seat.connection.settings ≡ setting_of hub.settings = ap (λ (s : Settings). setting_of s) at.settings_are in
    let set_after : setting_of after.connection.settings ≡ setting_of hub.settings = ap (λ (s : Settings). setting_of s) (same ∙ at.settings_are) in
    let seat_in : i < length hub.seats = slice_get_within hub.seats i seat there in
    let known : i < open_count (steps_of seen) = omega (arith, x.count) in
    let row_in : i < length hub.members = omega (arith, row_count hub seen x) in
    let closing : Closes (setting_of hub.settings) (record { event = e; outcome = g.out } ∷ trace) (closes_by after) =
    subst (λ (s : Setting). Closes s (record { event = e; outcome = g.out } ∷ trace) (closes_by after)) set_after
    (closes_traced after (closes_by after) refl (record { event = e; outcome = g.out } ∷ trace) g.stands) in
    let goes : GoesOn (setting_of hub.settings) seen i e g.out (closes_by after) = record {
      known = known;
      allowed = subst (λ (s : Setting). traces.IsAllowed s trace e) set_same may;
      answers = subst (λ (s : Setting). traces.IsOutcome s trace e g.out) set_same g.answers;
      closing_is = closing;
    } in
    let moves = rows_moved asked event outcome g.out after.room i hub.members g.says row_in
    (accept_of_request (setting_of seat.connection.settings) trace e may) (room_before e g.out after.room trace g.stands.room_is) in
    record {
      out = core e g.out;
      says = (g.out, g.says, refl);
      closes = closes_by after;
      stands =
          hub_moved hub rows i seat after e g.out hub_event (closes_by after) seen x there same g.stands
          (rows_are ∙ rows_followed asked e g.out (closes_by after) i hub.members (moved event outcome after.room i hub.members) row_in moves)
          move no_row no_count (step goes);
    }

-- an event is fed
pub hub_fed : (hub : HubState) (rows : List Member) (i : ℕ) (seat after : SeatState) (event : Event) (outcome : Outcome)
    → slice_get hub.seats i ≡ Some seat → IsTrue (is_fed (event_of event)) → IsAllowed seat.connection (event_of event)
    → SeatGoesOn seat (event_of event) (SaysOutcome outcome) after → after.connection.settings ≡ seat.connection.settings
    → rows ≡ followed event outcome after i hub.members
    → HubGoesOn hub (feeds i (event_of event)) (SaysCore (event_of event) outcome)
    (record { settings = hub.settings; seats = set hub.seats i after; members = rows })
hub_fed hub rows i seat after event outcome there fed allowed goes same rows_are = λ seen x.
    let at = x.seats i seat there in
    let may = (allowed_of_trace (setting_of seat.connection.settings) seat.connection.kept (core_trace i seen) (event_of event) at.stands.stands).0 allowed in
    hub_goes hub rows i seat after event outcome (feeds i (event_of event)) seen x there may (goes (core_trace i seen) at.stands) same rows_are
    refl (λ ms. refl) (λ n. refl) (λ step. (refl, fed, step))

-- it isn't a fed one, or isn't allowed
pub not_fed : (hub : HubState) (i : ℕ) (event : on.Event) → is_fed event ≡ false → HubRefuses hub (feeds i event)
not_fed hub i event no_feed = λ seen x. inr (inl no_feed)

pub not_allowed : (hub : HubState) (i : ℕ) (seat : SeatState) (event : on.Event) → slice_get hub.seats i ≡ Some seat
    → allowed_by (setting_of seat.connection.settings) seat.connection.kept event ≡ false → HubRefuses hub (feeds i event)
not_allowed hub i seat event there refused = λ seen x.
    let at = x.seats i seat there in
    inr (inr (subst (λ (s : Settings). traces.IsMisplaced (setting_of s) (core_trace i seen) event) at.settings_are
    ((misplaced_of_trace (setting_of seat.connection.settings) seat.connection.kept (core_trace i seen) event at.stands.stands).0 refused)))

-- ---- turns

-- the seat is that of its connection in the hub
seat_of : (hub : HubState) (i : ℕ) (seat : SeatState) (seen : List Seen) → HubStands hub seen → slice_get hub.seats i ≡ Some seat
    → IsSeatOf seat (first_message (member_at i hub.members).waiting) seen i
seat_of hub i seat seen x there =
    let at = x.seats i seat there in
    record {
      hub = subst (λ (s : Settings). IsHubTrace (setting_of s) seen) (sym at.settings_are) x.traced;
      stands = at.stands;
      waits = ap (λ (ms : List Member). first_message (member_at i ms).waiting) (sym x.members_are);
    }

pub hub_turned : (hub : HubState) (rows : List Member) (i : ℕ) (seat after : SeatState) (turn : SeatTurn) → slice_get hub.seats i ≡ Some seat
    → Takes seat hub.members i (Some turn) after rows → after.connection.settings ≡ seat.connection.settings
    → HubGoesOn hub (turns i) (SaysCore (event_of turn.event) turn.outcome)
    (record { settings = hub.settings; seats = set hub.seats i after; members = rows })
hub_turned hub rows i seat after turn there taken same = λ seen x.
    let at = x.seats i seat there in
    let t = taken.0 seen i (seat_of hub i seat seen x there) in
    let by_rules = subst (λ (s : Settings). IsTurnEvent (setting_of s) seen i (event_of turn.event)) at.settings_are t.by_rules in
    hub_goes hub rows i seat after turn.event turn.outcome (turns i) seen x there t.allowed t.goes same taken.1
    refl (λ ms. refl) (λ n. refl) (λ step. (by_rules, step))

pub hub_not_turned : (hub : HubState) (rows : List Member) (i : ℕ) (seat after : SeatState) → slice_get hub.seats i ≡ Some seat
    → Takes seat hub.members i None after rows → HubRefuses hub (turns i)
hub_not_turned hub rows i seat after there taken = λ seen x. inr (taken.0.1 seen i (seat_of hub i seat seen x there))

-- ---- openings

counted_more : (event : HubEvent) (n : ℕ) → n ≤ counted event n
counted_more opens n = omega arith
counted_more (feeds i e) n = omega arith
counted_more (turns i) n = omega arith

counted_opening : (event : HubEvent) (n : ℕ) → event ≡ opens → counted event n ≡ n + 1
counted_opening event n is = rw is refl

-- nothing happened to a connection that wasn't opened
unopened : (setting : Setting) (seen : List Seen) (j : ℕ) → IsHubTrace setting seen → open_count (steps_of seen) ≤ j → core_trace j seen ≡ []
unfolding core_of
unopened setting [] j x past = refl
unopened setting (s ∷ before) j x past =
    let more = counted_more s.step.event (open_count (steps_of before)) in
    let ih = unopened setting before j x.1 (omega arith) in
    elim (view_of setting s before x) [
      | inl opening ↦ core_opening j s before opening ∙ ih
      | inr m ↦ elim (cases_Bool (j == m.move.number)) [
        | inl same ↦ absurd (omega (arith, eqb-true j m.move.number same, m.goes.known))
        | inr other ↦ core_other setting j s before m other ∙ ih
      ]
    ]

pub record AddedAt (j : ℕ) (xs : List SeatState) (v s : SeatState) : Type 0 where
  pub cases : ((length xs ≤ j) × (s ≡ v)) ⊎ (slice_get xs j ≡ Some s)

added_at : (xs : List SeatState) (j : ℕ) (v s : SeatState) → slice_get (xs ++ v ∷ []) j ≡ Some s → AddedAt j xs v s
added_at xs j v s there =
    let inside : j < length (xs ++ v ∷ []) = slice_get_within (xs ++ v ∷ []) j s there in
    let is : get_or (xs ++ v ∷ []) j s ≡ s = get_or_from_slice_get (xs ++ v ∷ []) j s s there in
    record {
      cases = elim (cases_Bool (nat_lt j (length xs))) [
        | inl within ↦
            let low : j < length xs = ltb-true j (length xs) within in
            inr (slice_get_read xs (length xs) j s refl low (sym is ∙ get_or_append_left xs (v ∷ []) s j low))
        | inr out ↦
            let high : length xs ≤ j = ltb-false j (length xs) out in
            let eq : j ≡ length xs = omega (arith, inside, length-append xs (v ∷ [])) in
            inl (high, (sym is ∙ ap (λ (n : ℕ). get_or (xs ++ v ∷ []) n s) eq ∙ get_or-append_seam xs v [] s))
      ];
    }

opened_trace : (j n : ℕ) (seen : List Seen)
    → core_trace j (record { step = record { event = opens; outcome = opened n }; closes = false } ∷ seen) ≡ core_trace j seen
unfolding core_of
opened_trace j n seen = refl

opened_rows : (n : ℕ) (seen : List Seen)
    → members_of (record { step = record { event = opens; outcome = opened n }; closes = false } ∷ seen) ≡ members_of seen ++ newcomer ∷ []
unfolding members_of
opened_rows n seen = refl

pub hub_opened : (hub : HubState) (n : ℕ) → n ≡ length hub.seats → n < MAX_CONNECTIONS
    → HubGoesOn hub opens (λ out. out ≡ opened n)
    (record { settings = hub.settings; seats = hub.seats ++ fresh_seat hub.settings ∷ []; members = hub.members ++ newcomer ∷ [] })
hub_opened hub n is room = λ seen x.
    let count : n ≡ open_count (steps_of seen) = is ∙ x.count in
    let few : open_count (steps_of seen) < MAX_CONNECTIONS = omega arith in
    record {
      out = opened n;
      says = refl;
      closes = false;
      stands = record {
        traced = ((few, count, refl), x.traced);
        count = omega (arith, length-append hub.seats (fresh_seat hub.settings ∷ []), x.count);
        seats = λ j s found. elim (added_at hub.seats j (fresh_seat hub.settings) s found).cases [
          | inl (past, new) ↦
              let none : core_trace j seen ≡ [] = unopened (setting_of hub.settings) seen j x.traced (omega (arith, x.count)) in
              record {
                settings_are = ap (λ (v : SeatState). v.connection.settings) new;
                stands =
                    subst (λ (t : List Step). SeatStands s t) (sym (opened_trace j n seen ∙ none))
                    (subst (λ (v : SeatState). SeatStands v []) (sym new) (fresh_seat_stands hub.settings));
              }
          | inr old ↦
              let was = x.seats j s old in
              record {
                settings_are = was.settings_are;
                stands = subst (λ (t : List Step). SeatStands s t) (sym (opened_trace j n seen)) was.stands;
              }
        ];
        members_are = ap (λ (ms : List Member). ms ++ newcomer ∷ []) x.members_are ∙ sym (opened_rows n seen);
      };
    }

pub hub_full : (hub : HubState) → MAX_CONNECTIONS ≤ length hub.seats → HubRefuses hub opens
hub_full hub full = λ seen x. omega (arith, x.count)
