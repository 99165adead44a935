-- Events have one trace, up to the first that is refused.
use Rattle.std.proofs.Common.{◌≡◌, ◌<◌, ℕ, zero, suc, Bool, true, false, List, [], ◌∷◌, ◌++◌, map, take, drop, reverse, IsTrue, Some, refl, sym, ap, ◌∙◌, subst, inl, inr, arith, append_assoc}
use Rattle.std.specs.Prelude.{slice_get, option_map}
use Rattle.std.proofs.lemmas.Bool.{cases_order}
use Rattle.std.proofs.lemmas.Grind.{reverse_onto}
use Rattle.std.proofs.lemmas.List.{reverse-append, reverse-reverse, map-append, take-map}
use Rattle.std.proofs.lemmas.Option.{none-some, same_Some, slice_get-map, slice_get_within}
use Rattle.http_config.specs.Config.{Settings}
use Rattle.model_h1.specs.Setting.{Setting}
use Rattle.model_h1.specs.Event as on
use Rattle.model_h1.specs.Sums.{Step}
use Rattle.model_h1.specs.Past.{ParsedStep}
use Rattle.model_h1.specs.Allowed.{is_allowed}
use Rattle.model_h1.specs.Trace as traces
use Rattle.model_h1.proofs.PastLemmas.{past_of_unique}
use Rattle.model_state.specs.Local.{allowed_by}
use Rattle.model_state.proofs.Stands.{allowed_of_trace}
use Rattle.h1_connection.specs.EventMeaning.{setting_of}
use Rattle.model_rooms.specs.Hub.{HubEvent as Happens, opens, feeds, turns, HubOutcome as Answers, opened, core, HubStep}
use Rattle.model_rooms.specs.Seen.{Seen, steps_of}
use Rattle.model_rooms.specs.Trace.{is_fed, core_trace, GoesOn, IsHubStep, IsHubTrace}
use Rattle.model_rooms.proofs.HubLemmas.{same_hub}
use Rattle.rooms.specs.Seat.{SeatState}
use Rattle.rooms.proofs.TurnLemmas.{goes_on}
use Rattle.rooms.specs.Hub.{HubState, HubStands, hub_event_of, IsRefused}
use Rattle.rooms.specs.Pair.{Pair}
use Rattle.rooms.specs.Run.{SaySteps, IsDriven, IsWhole, IsMisplaced, events_of, TakesAll, StopsAt, AreAllowed, IsFirstRefused}
use Rattle.rooms.specs.declared.event.HubEvent.{HubEvent}
use Rattle.rooms.specs.declared.driver.HubTrace.{HubTrace}

-- the events of a trace, the newest first as there
abbrev newest_first : List Seen → List Happens
newest_first seen = map (λ (s : Seen). s.step.event) seen

-- ---- a step isn't refused

both_ways : (setting : Setting) (trace : List Step) (event : on.Event) → traces.IsAllowed setting trace event → traces.IsMisplaced setting trace event → ⊥
both_ways setting trace event a m =
    let same = past_of_unique setting trace a.0 m.0 a.1 m.1 in
    let yes : is_allowed setting m.0 event ≡ true = subst (λ (p : List ParsedStep). IsTrue (is_allowed setting p event)) same a.2 in
    let bad : is_allowed setting m.0 event ≡ false = m.2 in
    let clash : true ≡ false = sym yes ∙ bad in cc

-- an event that may be fed isn't refused
pub may_be_fed : (hub : HubState) (i : ℕ) (seat : SeatState) (event : on.Event) (seen : List Seen) → slice_get hub.seats i ≡ Some seat → IsTrue (is_fed event)
    → allowed_by (setting_of seat.connection.settings) seat.connection.kept event ≡ true → HubStands hub seen
    → IsRefused (setting_of hub.settings) seen (feeds i event) → ⊥
may_be_fed hub i seat event seen there fed allowed x (inl past) = omega (arith, slice_get_within hub.seats i seat there, x.count)
may_be_fed hub i seat event seen there fed allowed x (inr (inl unfed)) = let clash : true ≡ false = sym fed ∙ unfed in cc
may_be_fed hub i seat event seen there fed allowed x (inr (inr misplaced)) =
    let at = x.seats i seat there in
    let may = (allowed_of_trace (setting_of seat.connection.settings) seat.connection.kept (core_trace i seen) event at.stands.stands).0 allowed in
    both_ways (setting_of hub.settings) (core_trace i seen) event
    (subst (λ (s : Settings). traces.IsAllowed (setting_of s) (core_trace i seen) event) at.settings_are may) misplaced

fed_refused : (setting : Setting) (seen : List Seen) (i : ℕ) (given event : on.Event) (o : on.Outcome) (closes : Bool) → event ≡ given → IsTrue (is_fed given)
    → GoesOn setting seen i event o closes → IsRefused setting seen (feeds i given) → ⊥
fed_refused setting seen i given event o closes same fed goes (inl past) = absurd (omega (arith, goes.known))
fed_refused setting seen i given event o closes same fed goes (inr (inl unfed)) = absurd (let clash : true ≡ false = sym fed ∙ unfed in cc)
fed_refused setting seen i given event o closes same fed goes (inr (inr misplaced)) =
    both_ways setting (core_trace i seen) given
    (subst (λ (e : on.Event). traces.IsAllowed setting (core_trace i seen) e) same goes.allowed) misplaced

turn_refused : (setting : Setting) (seen : List Seen) (i : ℕ) (event : on.Event) (o : on.Outcome) (closes : Bool)
    → GoesOn setting seen i event o closes → IsRefused setting seen (turns i) → ⊥
turn_refused setting seen i event o closes goes (inl past) = absurd (omega (arith, goes.known))
turn_refused setting seen i event o closes goes (inr over) =
    absurd (let clash : true ≡ false = sym over ∙ goes_on setting (core_trace i seen) event goes.allowed in cc)

step_refused : (setting : Setting) (seen : List Seen) (event : Happens) (o : Answers) (closes : Bool) → IsHubStep setting seen event o closes
    → IsRefused setting seen event → ⊥
step_refused setting seen opens (opened n) closes x refused = absurd (omega (arith, x.0))
step_refused setting seen opens (core e o) closes x refused = absurd x
step_refused setting seen (feeds i given) (opened n) closes x refused = absurd x
step_refused setting seen (feeds i given) (core e o) closes x refused = fed_refused setting seen i given e o closes x.0 x.1 x.2 refused
step_refused setting seen (turns i) (opened n) closes x refused = absurd x
step_refused setting seen (turns i) (core e o) closes x refused = turn_refused setting seen i e o closes x.1 refused

-- ---- so no trace goes past a refused event

first_event : (e f : Happens) (es fs : List Happens) → e ∷ es ≡ f ∷ fs → e ≡ f
first_event e f es fs same = cc

other_events : (e f : Happens) (es fs : List Happens) → e ∷ es ≡ f ∷ fs → es ≡ fs
other_events e f es fs same = cc

no_event : (e : Happens) (es fs : List Happens) → [] ≡ fs ++ (e ∷ es) → ⊥
no_event e es [] same = cc
no_event e es (f ∷ fs) same = cc

stops_there : (setting : Setting) (seen : List Seen) (later : List Happens) (e : Happens) (stop : List Seen) → IsHubTrace setting seen → IsHubTrace setting stop
    → newest_first seen ≡ later ++ (e ∷ newest_first stop) → IsRefused setting stop e → ⊥
stops_there setting [] later e stop x y same refused = no_event e (newest_first stop) later same
stops_there setting (s ∷ before) [] e stop x y same refused =
    let event = first_event s.step.event e (newest_first before) (newest_first stop) same in
    let alike : before ≡ stop = same_hub setting before stop x.1 y (other_events s.step.event e (newest_first before) (newest_first stop) same) in
    step_refused setting stop e s.step.outcome s.closes
    (subst (λ (v : Happens). IsHubStep setting stop v s.step.outcome s.closes) event
    (subst (λ (b : List Seen). IsHubStep setting b s.step.event s.step.outcome s.closes) alike x.0))
    refused
stops_there setting (s ∷ before) (f ∷ later) e stop x y same refused =
    stops_there setting before later e stop x.1 y (other_events s.step.event f (newest_first before) (later ++ (e ∷ newest_first stop)) same) refused

-- ---- the same in the order of the events

reversed : (seen : List Seen) (events : List Happens) → events_of seen ≡ events → newest_first seen ≡ reverse events
reversed seen events e = sym (reverse-reverse (newest_first seen)) ∙ ap reverse e

-- the first of a list comes after the others once it is turned round
first_last : (e : Happens) (es rest : List Happens) → reverse (e ∷ es) ++ rest ≡ reverse es ++ (e ∷ rest)
first_last e es rest = ap (λ l. l ++ rest) (reverse_onto es e []) ∙ append_assoc (reverse es) (e ∷ []) rest

-- a list around one of its events
around : (es : List Happens) (i : ℕ) (e : Happens) → slice_get es i ≡ Some e → take i es ++ (e ∷ drop (suc i) es) ≡ es
around [] i e at = absurd (none-some e at)
around (x ∷ es) zero e at = ap (λ f. f ∷ es) (sym (same_Some x e at))
around (x ∷ es) (suc i) e at = ap (λ l. x ∷ l) (around es i e at)

-- the first events of a list have the same ones in front
within : (es : List Happens) (i j : ℕ) (e : Happens) → i < j → slice_get es i ≡ Some e
    → (slice_get (take j es) i ≡ Some e) × (take i (take j es) ≡ take i es)
within [] i j e less at = absurd (none-some e at)
within (x ∷ es) i zero e less at = absurd (omega (arith, less))
within (x ∷ es) zero (suc j) e less at = (at, refl)
within (x ∷ es) (suc i) (suc j) e less at =
    let more = within es i j e (omega (arith, less)) at in
    (more.0, ap (λ l. x ∷ l) more.1)

-- a trace of events doesn't go past one that is refused
not_past : (setting : Setting) (events : List Happens) (i : ℕ) (seen stop : List Seen) → TakesAll setting events seen → StopsAt setting events i stop → ⊥
not_past setting events i seen stop x y =
    let before = reverse (take i events) in
    let rest = drop (suc i) events in
    let split : newest_first seen ≡ reverse rest ++ (y.event ∷ before) =
    reversed seen events x.events_are ∙ ap reverse (sym (around events i y.event y.event_is))
    ∙ reverse-append (take i events) (y.event ∷ rest) ∙ first_last y.event rest before in
    let there : newest_first seen ≡ reverse rest ++ (y.event ∷ newest_first stop) =
    split ∙ ap (λ (l : List Happens). reverse rest ++ (y.event ∷ l)) (sym (reversed stop (take i events) y.before.events_are)) in
    stops_there setting seen (reverse rest) y.event stop x.traced y.before.traced there y.refused

-- nor is there a first refused event before another
not_before : (setting : Setting) (events : List Happens) (i j : ℕ) (a b : List Seen) → i < j → StopsAt setting events i a → StopsAt setting events j b → ⊥
not_before setting events i j a b less x y =
    let inside = within events i j x.event less x.event_is in
    not_past setting (take j events) i b a y.before
    (record {
      before = subst (λ (l : List Happens). TakesAll setting l a) (sym inside.1) x.before;
      event = x.event;
      event_is = inside.0;
      refused = x.refused;
    })

one_stop : (setting : Setting) (events : List Happens) (i j : ℕ) (a b : List Seen) → StopsAt setting events i a → StopsAt setting events j b → i ≡ j
one_stop setting events i j a b x y = elim (cases_order i j) [
  | inl same ↦ same
  | inr (inl less) ↦ absurd (not_before setting events i j a b less x y)
  | inr (inr more) ↦ absurd (not_before setting events j i b a more y x)
]

-- ---- runs

map_reversed : {A B : Type 0} (f : A → B) (xs : List A) → map f (reverse xs) ≡ reverse (map f xs)
map_reversed f [] = refl
map_reversed f (x ∷ xs) =
    ap (map f) (reverse_onto xs x []) ∙ map-append f (reverse xs) (x ∷ []) ∙ ap (λ l. l ++ f x ∷ []) (map_reversed f xs) ∙ sym (reverse_onto (map f xs) (f x) [])

says_events : (ss : List Pair) (ts : List HubStep) → SaySteps ss ts → map (λ (t : HubStep). t.event) ts ≡ map hub_event_of (map (λ (s : Pair). s.event) ss)
says_events [] [] says = refl
says_events [] (t ∷ ts) says = absurd says
says_events (s ∷ ss) [] says = absurd says
says_events (s ∷ ss) (t ∷ ts) says = λ i. says.0.event i ∷ says_events ss ts says.1 i

step_events : (seen : List Seen) → map (λ (t : HubStep). t.event) (steps_of seen) ≡ newest_first seen
step_events [] = refl
step_events (s ∷ before) = ap (λ (l : List Happens). s.step.event ∷ l) (step_events before)

driven_events : (settings : Settings) (events : List HubEvent) (trace : HubTrace) (seen : List Seen) → IsDriven settings events trace seen
    → TakesAll (setting_of settings) (map hub_event_of events) seen
driven_events settings events trace seen x =
    record {
      traced = x.traced;
      events_are =
          ap (λ (l : List Happens). reverse l) (sym (step_events seen))
          ∙ sym (map_reversed (λ (t : HubStep). t.event) (steps_of seen))
          ∙ says_events trace.steps.items (reverse (steps_of seen)) x.says
          ∙ ap (λ (l : List HubEvent). map hub_event_of l) x.events_are;
    }

stopped_events : (settings : Settings) (events : List HubEvent) (index : ℕ) (trace : HubTrace) (x : IsMisplaced settings events index trace)
    → StopsAt (setting_of settings) (map hub_event_of events) index x.seen
stopped_events settings events index trace x =
    record {
      before = subst (λ (l : List Happens). TakesAll (setting_of settings) l x.seen) (sym (take-map hub_event_of index events))
          (driven_events settings (take index events) trace x.seen x.driven);
      event = hub_event_of x.event;
      event_is = slice_get-map hub_event_of events index ∙ ap (option_map hub_event_of) x.event_is;
      refused = x.refused;
    }

-- where each is taken none is refused
pub none_refused : (settings : Settings) (events : List HubEvent) (index : ℕ) (trace : HubTrace) → IsMisplaced settings events index trace
    → AreAllowed settings events → ⊥
none_refused settings events index trace x all =
    not_past (setting_of settings) (map hub_event_of events) index all.0 x.seen all.1 (stopped_events settings events index trace x)

-- the one that is refused is the first
pub first_refused : (settings : Settings) (events : List HubEvent) (index other : ℕ) (trace : HubTrace) → IsMisplaced settings events index trace
    → IsFirstRefused settings events other → index ≡ other
first_refused settings events index other trace x first =
    one_stop (setting_of settings) (map hub_event_of events) index other x.seen first.0 (stopped_events settings events index trace x) first.1

-- and where there is one, not all are answered
pub not_whole : (settings : Settings) (events : List HubEvent) (index : ℕ) (trace : HubTrace) → IsWhole settings events trace
    → IsFirstRefused settings events index → ⊥
not_whole settings events index trace x first =
    not_past (setting_of settings) (map hub_event_of events) index x.seen first.0 (driven_events settings events trace x.seen x.driven) first.1
