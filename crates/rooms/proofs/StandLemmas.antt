-- A hub that goes on stands for the longer trace.
use Rattle.std.proofs.Common.{◌≡◌, ◌<◌, ◌⊎◌, ℕ, ◌==◌, Bool, true, false, List, ◌∷◌, length, IsTrue, Option, Some, None, refl, sym, ap, ◌∙◌, subst, inl, inr, get_or, get_or-set_same, get_or-set_other, if◌then◌else◌, arith}
use Rattle.std.proofs.Math.ListN.{set, length-set}
use Rattle.std.specs.Prelude.{not, ◌&&◌, is_some, option_map, slice_get}
use Rattle.std.specs.Option.{option_or}
use Rattle.std.proofs.lemmas.Bool.{cases_Bool, eqb-true, eqb-false, eq-eqb}
use Rattle.std.proofs.lemmas.Option.{slice_get_within, slice_get_read, get_or_from_slice_get}
use Rattle.model_h1.specs.Request.{Head}
use Rattle.model_h1.specs.Setting.{Setting}
use Rattle.model_h1.specs.Event as on
use Rattle.model_h1.specs.Sums.{Step, head_of, request}
use Rattle.model_h1.specs.Past.{ParsedStep, steps}
use Rattle.model_h1.specs.Closing.{closing}
use Rattle.model_h1.specs.Allowed.{asks_raw, is_over, is_allowed}
use Rattle.model_h1.specs.Trace as traces
use Rattle.h1_connection.specs.EventMeaning.{setting_of}
use Rattle.model_rooms.specs.Room.{room_of}
use Rattle.model_rooms.specs.Hub.{HubEvent, core, move_by, counted, open_count, core_of}
use Rattle.model_rooms.specs.Member.{Member, with_opened, row_behind, member_at, rows_from}
use Rattle.model_rooms.specs.Seen.{Seen, steps_of, members_of}
use Rattle.model_rooms.specs.Trace.{core_trace, IsHubStep}
use Rattle.rooms.specs.Seat.{SeatState, SeatStands}
use Rattle.rooms.specs.Hub.{HubState, HubStands}

-- ---- traces

-- a step of one connection is in its trace, and in no other
own_trace : (i : ℕ) (hub_event : HubEvent) (e : on.Event) (o : on.Outcome) (closes : Bool) (seen : List Seen)
    → move_by hub_event (core e o) ≡ Some (record { number = i; step = record { event = e; outcome = o } })
    → core_trace i (record { step = record { event = hub_event; outcome = core e o }; closes = closes } ∷ seen)
    ≡ record { event = e; outcome = o } ∷ core_trace i seen
unfolding core_of
own_trace i hub_event e o closes seen is = rw (is, eq-eqb i i refl) refl

other_trace : (i j : ℕ) (hub_event : HubEvent) (e : on.Event) (o : on.Outcome) (closes : Bool) (seen : List Seen)
    → move_by hub_event (core e o) ≡ Some (record { number = i; step = record { event = e; outcome = o } }) → (j == i) ≡ false
    → core_trace j (record { step = record { event = hub_event; outcome = core e o }; closes = closes } ∷ seen) ≡ core_trace j seen
unfolding core_of
other_trace i j hub_event e o closes seen is other = rw (is, other) refl

-- ---- lists

-- what stands at a place after one place was set
pub record SetAt (i j : ℕ) (xs : List SeatState) (v s : SeatState) : Type 0 where
  pub cases : ((j == i) ≡ true × (s ≡ v)) ⊎ ((j == i) ≡ false × (slice_get xs j ≡ Some s))

set_at : (xs : List SeatState) (i j : ℕ) (v s : SeatState) → slice_get (set xs i v) j ≡ Some s → SetAt i j xs v s
set_at xs i j v s there =
    let inside : j < length xs = omega (arith, slice_get_within (set xs i v) j s there, length-set xs i v) in
    let is : get_or (set xs i v) j s ≡ s = get_or_from_slice_get (set xs i v) j s s there in
    record {
      cases = elim (cases_Bool (j == i)) [
        | inl same ↦
            let eq : j ≡ i = eqb-true j i same in
            let at : i < length xs = omega arith in
            inl (same, (sym is ∙ ap (λ (n : ℕ). get_or (set xs i v) n s) eq ∙ get_or-set_same xs i v s at))
        | inr other ↦
            let ne : j ≡ i → ⊥ = eqb-false j i other in
            inr (other, slice_get_read xs (length xs) j s refl inside (sym is ∙ get_or-set_other xs i j v s ne))
      ];
    }

-- ---- a connection goes on

-- the connection with this number went on, and the rows were changed as they are to be
pub hub_moved : (hub : HubState) (rows : List Member) (i : ℕ) (seat after : SeatState) (e : on.Event) (o : on.Outcome) (hub_event : HubEvent) (closes : Bool)
    (seen : List Seen) → (x : HubStands hub seen) → slice_get hub.seats i ≡ Some seat → after.connection.settings ≡ seat.connection.settings
    → SeatStands after (record { event = e; outcome = o } ∷ core_trace i seen)
    → rows
    ≡ rows_from 0 (row_behind (request (core_trace i seen)) closes (record { number = i; step = record { event = e; outcome = o } }) (member_at i hub.members)) hub.members
    → move_by hub_event (core e o) ≡ Some (record { number = i; step = record { event = e; outcome = o } })
    → ((ms : List Member) → with_opened hub_event ms ≡ ms) → ((n : ℕ) → counted hub_event n ≡ n)
    → IsHubStep (setting_of hub.settings) seen hub_event (core e o) closes
    → HubStands (record { settings = hub.settings; seats = set hub.seats i after; members = rows })
    (record { step = record { event = hub_event; outcome = core e o }; closes = closes } ∷ seen)
unfolding members_of
hub_moved hub rows i seat after e o hub_event closes seen x there same stands rows_are move no_row no_count is_step =
    record {
      traced = (is_step, x.traced);
      count = length-set hub.seats i after ∙ x.count ∙ sym (no_count (open_count (steps_of seen)));
      seats = λ j s found. elim (set_at hub.seats i j after s found).cases [
        | inl (here, is) ↦
            let eq : j ≡ i = eqb-true j i here in
            let trace : core_trace j (record { step = record { event = hub_event; outcome = core e o }; closes = closes } ∷ seen)
            ≡ record { event = e; outcome = o } ∷ core_trace i seen =
            ap (λ (n : ℕ). core_trace n (record { step = record { event = hub_event; outcome = core e o }; closes = closes } ∷ seen)) eq
            ∙ own_trace i hub_event e o closes seen move in
            record {
              settings_are = ap (λ (v : SeatState). v.connection.settings) is ∙ same ∙ (x.seats i seat there).settings_are;
              stands =
                  subst (λ (v : SeatState). SeatStands v (core_trace j (record { step = record { event = hub_event; outcome = core e o }; closes = closes } ∷ seen))) (sym is)
                  (subst (λ (t : List Step). SeatStands after t) (sym trace) stands);
            }
        | inr (other, old) ↦
            let was = x.seats j s old in
            record {
              settings_are = was.settings_are;
              stands = subst (λ (t : List Step). SeatStands s t) (sym (other_trace i j hub_event e o closes seen move other)) was.stands;
            }
      ];
      members_are =
          rw (no_row, move)
          (subst (λ (ms : List Member). rows
          ≡ rows_from 0 (row_behind (request (core_trace i seen)) closes (record { number = i; step = record { event = e; outcome = o } }) (member_at i ms)) ms)
          x.members_are rows_are);
    }

-- ---- what an upgrade needs

accept_case : (over closes waits raw whole fits : Bool) → (not over && (if closes then false else ((waits && (raw && whole)) && fits))) ≡ true → raw ≡ true
accept_case true closes waits raw whole fits is = absurd (cc is)
accept_case false true waits raw whole fits is = absurd (cc is)
accept_case false false false raw whole fits is = absurd (cc is)
accept_case false false true false whole fits is = absurd (cc is)
accept_case false false true true whole fits is = refl

raw_is_asked : (asked : Option Head) → asks_raw asked ≡ true → is_some asked ≡ true
raw_is_asked None is = absurd (cc is)
raw_is_asked (Some h) is = refl

accept_asked : (setting : Setting) (past : List ParsedStep) (limit : ℕ) → IsTrue (is_allowed setting past (on.accept limit))
    → is_some (request (steps past)) ≡ true
unfolding is_allowed
accept_asked setting past limit may =
    raw_is_asked (request (steps past)) (accept_case (is_over (steps past)) (is_some (closing setting past)) _ (asks_raw (request (steps past))) _ _ may)

-- an upgrade may come only to a request
pub accept_of_request : (setting : Setting) (trace : List Step) (event : on.Event) → traces.IsAllowed setting trace event → (limit : ℕ) → event ≡ on.accept limit
    → is_some (request trace) ≡ true
accept_of_request setting trace event may limit is =
    let here : IsTrue (is_allowed setting may.0 (on.accept limit)) = subst (λ (e : on.Event). IsTrue (is_allowed setting may.0 e)) is may.2 in
    subst (λ (t : List Step). is_some (request t) ≡ true) may.1.same (accept_asked setting may.0 limit here)

-- the room that is kept after an event that was done is that of the request before it
pub room_before : (event : on.Event) (o : on.Outcome) (room : Option (List ℕ)) (trace : List Step)
    → room ≡ option_map (λ (h : Head). room_of h.target) (request (record { event = event; outcome = o } ∷ trace)) → o ≡ on.done
    → room ≡ option_map (λ (h : Head). room_of h.target) (request trace)
unfolding request
room_before event o room trace is done =
    is ∙ ap (λ (v : on.Outcome). option_map (λ (h : Head). room_of h.target) (option_or (head_of v) (request trace))) done
