-- A run of a hub that grows by a step.
use Rattle.std.proofs.Common.{◌≡◌, ◌<◌, ◌≤◌, ℕ, ◌+◌, List, [], ◌∷◌, ◌++◌, length, get_or, map, take, reverse, Option, Some, None, refl, sym, ap, ◌∙◌, subst, arith}
use Rattle.std.proofs.lemmas.List.{map-append, length-map, take_more, take_all}
use Rattle.std.proofs.lemmas.Grind.{reverse_onto}
use Rattle.std.proofs.lemmas.Option.{slice_get_within, slice_get-map}
use Rattle.std.specs.Prelude.{option_map, slice_get}
use Rattle.http_config.specs.Config.{Settings}
use Rattle.model_h1.specs.Sums.{written}
use Rattle.model_h1.specs.Text.{text}
use Rattle.model_h1.proofs.WrittenLemmas.{written_buffered}
use Rattle.h1_connection.proofs.GoesOnLemmas.{buffered_traced}
use Rattle.h1_connection.specs.EventMeaning.{setting_of}
use Rattle.model_rooms.specs.Hub as model
use Rattle.model_rooms.specs.Seen.{Seen, steps_of, members_of}
use Rattle.model_rooms.specs.Trace.{core_trace, IsHubTrace}
use Rattle.rooms.specs.Seat.{SeatState}
use Rattle.rooms.specs.Hub.{HubState, fresh_hub, buffered_of, HubStands, HubSteps, IsRefused, hub_event_of}
use Rattle.rooms.specs.Pair.{Pair}
use Rattle.rooms.specs.Run.{SaysStep, SaySteps, IsDriven, IsWhole, IsMisplaced}
use Rattle.rooms.specs.declared.event.HubEvent.{HubEvent}
use Rattle.rooms.specs.declared.event.HubOutcome.{HubOutcome}
use Rattle.rooms.specs.declared.driver.HubTrace.{HubTrace}

-- what a loop over the events has done before the one at the index
pub record IsDrivenTo (settings : Settings) (events : List HubEvent) (index : ℕ) (steps : List Pair) (hub : HubState) : Type 0 where
  pub settings_are : hub.settings ≡ settings
  pub events_are : map (λ (s : Pair). s.event) steps ≡ take index events
  pub seen : List Seen
  pub stands : HubStands hub seen
  pub says : SaySteps steps (reverse (steps_of seen))

-- ---- before the first event

pub fresh_hub_stands : (settings : Settings) → HubStands (fresh_hub settings) []
unfolding members_of
fresh_hub_stands settings = record {
  traced = tt;
  count = refl;
  seats = λ i seat there. absurd (omega (arith, slice_get_within [] i seat there));
  members_are = refl;
}

pub driven_new : (settings : Settings) (events : List HubEvent) (steps : List Pair) (hub : HubState) → steps ≡ [] → hub ≡ fresh_hub settings
    → IsDrivenTo settings events 0 steps hub
driven_new settings events steps hub empty is =
    subst (λ (h : HubState). IsDrivenTo settings events 0 steps h) (sym is)
    (subst (λ (l : List Pair). IsDrivenTo settings events 0 l (fresh_hub settings)) (sym empty)
    (record { settings_are = refl; events_are = refl; seen = []; stands = fresh_hub_stands settings; says = tt }))

-- ---- one more event

-- one more step on both sides
say_more : (ss : List Pair) (ts : List model.HubStep) (s : Pair) (t : model.HubStep) → SaySteps ss ts → SaysStep s t → SaySteps (ss ++ s ∷ []) (ts ++ t ∷ [])
say_more [] [] s t x y = (y, tt)
say_more [] (u ∷ ts) s t x y = absurd x
say_more (r ∷ ss) [] s t x y = absurd x
say_more (r ∷ ss) (u ∷ ts) s t x y = (x.0, say_more ss ts s t x.1 y)

pub driven_more : (settings : Settings) (events : List HubEvent) (index : ℕ) (steps more : List Pair) (hub after : HubState) (event : HubEvent) (outcome : HubOutcome)
    → index < length events → event ≡ get_or events index event → IsDrivenTo settings events index steps hub
    → HubSteps hub (hub_event_of event) (Some outcome) after → after.settings ≡ hub.settings
    → more ≡ steps ++ (record { event = event; outcome = outcome }) ∷ []
    → IsDrivenTo settings events (index + 1) more after
driven_more settings events index steps more hub after event outcome in_range is x goes same grown =
    let next = goes x.seen x.stands in
    let step : model.HubStep = record { event = hub_event_of event; outcome = next.out } in
    let pair : Pair = record { event = event; outcome = outcome } in
    subst (λ (l : List Pair). IsDrivenTo settings events (index + 1) l after) (sym grown)
    (record {
      settings_are = same ∙ x.settings_are;
      events_are =
          map-append (λ (s : Pair). s.event) steps (pair ∷ [])
          ∙ ap (λ (done : List HubEvent). done ++ event ∷ []) x.events_are
          ∙ ap (λ (e : HubEvent). take index events ++ e ∷ []) is
          ∙ sym (take_more events index event in_range);
      seen = record { step = step; closes = next.closes } ∷ x.seen;
      stands = next.stands;
      says =
          subst (λ (l : List model.HubStep). SaySteps (steps ++ pair ∷ []) l) (sym (reverse_onto (steps_of x.seen) step []))
          (say_more steps (reverse (steps_of x.seen)) pair step x.says (record { event = refl; outcome = next.says }));
    })

-- ---- what the run gives

record Mapped (o : Option SeatState) (bytes : List ℕ) : Type 0 where
  seat : SeatState
  there : o ≡ Some seat
  bytes_are : bytes ≡ buffered_of seat

mapped : (o : Option SeatState) (bytes : List ℕ) → option_map buffered_of o ≡ Some bytes → Mapped o bytes
mapped None bytes is = absurd (cc is)
mapped (Some seat) bytes is =
    let same : Some (buffered_of seat) ≡ Some bytes = is in
    record { seat = seat; there = refl; bytes_are = cc }

-- of one connection, what was written and then what waits is the text
text_of : (hub : HubState) (seen : List Seen) (buffers : List (List ℕ)) (i : ℕ) (bytes : List ℕ) → HubStands hub seen
    → buffers ≡ map buffered_of hub.seats → slice_get buffers i ≡ Some bytes
    → written (core_trace i seen) ++ bytes ≡ text (setting_of hub.settings) (core_trace i seen)
text_of hub seen buffers i bytes x buffers_are there =
    let m = mapped (slice_get hub.seats i) bytes
    (sym (slice_get-map buffered_of hub.seats i) ∙ ap (λ (l : List (List ℕ)). slice_get l i) (sym buffers_are) ∙ there) in
    let at = x.seats i m.seat m.there in
    let trace = core_trace i seen in
    ap (λ (b : List ℕ). written trace ++ b) (m.bytes_are ∙ buffered_traced m.seat.connection trace at.stands.stands)
    ∙ written_buffered (setting_of m.seat.connection.settings) trace at.stands.stands.traced
    ∙ ap (λ (s : Settings). text (setting_of s) trace) at.settings_are

pub run_of : (settings : Settings) (events : List HubEvent) (index : ℕ) (steps : List Pair) (hub : HubState) (trace : HubTrace)
    → (x : IsDrivenTo settings events index steps hub) → trace.steps.items ≡ steps → trace.buffered.items ≡ map buffered_of hub.seats
    → IsDriven settings (take index events) trace x.seen
run_of settings events index steps hub trace x steps_are buffers_are =
    record {
      traced = subst (λ (s : Settings). IsHubTrace (setting_of s) x.seen) x.settings_are x.stands.traced;
      says = subst (λ (l : List Pair). SaySteps l (reverse (steps_of x.seen))) (sym steps_are) x.says;
      events_are = ap (λ (l : List Pair). map (λ (s : Pair). s.event) l) steps_are ∙ x.events_are;
      count = ap (λ (l : List (List ℕ)). length l) buffers_are ∙ length-map hub.seats buffered_of ∙ x.stands.count;
      texts = λ i bytes there.
          text_of hub x.seen trace.buffered.items i bytes x.stands buffers_are there
          ∙ ap (λ (s : Settings). text (setting_of s) (core_trace i x.seen)) x.settings_are;
    }

pub whole_of : (settings : Settings) (events : List HubEvent) (index : ℕ) (steps : List Pair) (hub : HubState) (trace : HubTrace)
    → IsDrivenTo settings events index steps hub → trace.steps.items ≡ steps → trace.buffered.items ≡ map buffered_of hub.seats
    → length events ≤ index → IsWhole settings events trace
whole_of settings events index steps hub trace x steps_are buffers_are all =
    record {
      seen = x.seen;
      driven = subst (λ (l : List HubEvent). IsDriven settings l trace x.seen) (take_all index events all)
          (run_of settings events index steps hub trace x steps_are buffers_are);
    }

pub misplaced_of : (settings : Settings) (events : List HubEvent) (index : ℕ) (steps : List Pair) (hub after : HubState) (trace : HubTrace) (event : HubEvent)
    → IsDrivenTo settings events index steps hub → trace.steps.items ≡ steps → trace.buffered.items ≡ map buffered_of after.seats
    → slice_get events index ≡ Some event → HubSteps hub (hub_event_of event) None after
    → IsMisplaced settings events index trace
misplaced_of settings events index steps hub after trace event x steps_are buffers_are there refused =
    record {
      seen = x.seen;
      driven =
          run_of settings events index steps hub trace x steps_are
          (buffers_are ∙ ap (λ (h : HubState). map buffered_of h.seats) refused.0);
      event = event;
      event_is = there;
      refused =
          subst (λ (s : Settings). IsRefused (setting_of s) x.seen (hub_event_of event)) x.settings_are (refused.1 x.seen x.stands);
    }
