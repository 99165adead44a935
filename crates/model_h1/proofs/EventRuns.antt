-- Events that come one after another have one trace, up to the first that isn't allowed.
use Rattle.std.proofs.Common.{◌≡◌, ℕ, zero, suc, ◌<◌, List, [], ◌∷◌, ◌++◌, ◌⊎◌, take, drop, map, Some, refl, sym, ap, ◌∙◌, subst, inl, inr, arith, append_assoc}
use Rattle.std.specs.Prelude.{reverse, slice_get}
use Rattle.std.proofs.lemmas.Bool.{cases_order}
use Rattle.std.proofs.lemmas.Grind.{reverse_onto}
use Rattle.std.proofs.lemmas.List.{append-nil, reverse-append, reverse-reverse}
use Rattle.std.proofs.lemmas.Option.{none-some, same_Some}
use Rattle.model_h1.specs.Setting.{Setting}
use Rattle.model_h1.specs.Event.{Event}
use Rattle.model_h1.specs.Sums.{Step}
use Rattle.model_h1.specs.OutcomeTable.{outcome_of}
use Rattle.model_h1.specs.Trace.{IsAllowed, IsMisplaced, IsTrace}
use Rattle.model_h1.specs.Laws.Runs.{events_of, IsWhole, StopsAt}
use Rattle.model_h1.proofs.EventLemmas.{allowed_or_not, not_allowed_and_misplaced, same_events}

-- the events of a trace, the newest first as there
abbrev newest_first : List Step → List Event
newest_first trace = map (λ s. s.event) trace

-- ---- lists of events

-- the same events the other way round
turned : (trace : List Step) (events : List Event) → events_of trace ≡ events → newest_first trace ≡ reverse events
turned trace events e = sym (reverse-reverse (newest_first trace)) ∙ ap reverse e

-- the first of a list comes behind the others once it is turned
first_behind : (e : Event) (es rest : List Event) → reverse (e ∷ es) ++ rest ≡ reverse es ++ (e ∷ rest)
first_behind e es rest = ap (λ l. l ++ rest) (reverse_onto es e []) ∙ append_assoc (reverse es) (e ∷ []) rest

-- a list around one of its events
around : (es : List Event) (i : ℕ) (e : Event) → slice_get es i ≡ Some e → take i es ++ (e ∷ drop (suc i) es) ≡ es
around [] i e at = absurd (none-some e at)
around (x ∷ es) zero e at = ap (λ f. f ∷ es) (sym (same_Some x e at))
around (x ∷ es) (suc i) e at = ap (λ l. x ∷ l) (around es i e at)

-- the first events of a list have the same ones in front
within : (es : List Event) (i j : ℕ) (e : Event) → i < j → slice_get es i ≡ Some e
    → (slice_get (take j es) i ≡ Some e) × (take i (take j es) ≡ take i es)
within [] i j e less at = absurd (none-some e at)
within (x ∷ es) i zero e less at = absurd (omega (arith, less))
within (x ∷ es) zero (suc j) e less at = (at, refl)
within (x ∷ es) (suc i) (suc j) e less at =
    let more = within es i j e (omega (arith, less)) at in
    (more.0, ap (λ l. x ∷ l) more.1)

-- ---- at most one trace

-- the first event and the others of a list
first_event : (e f : Event) (es fs : List Event) → e ∷ es ≡ f ∷ fs → e ≡ f
first_event e f es fs same = cc

other_events : (e f : Event) (es fs : List Event) → e ∷ es ≡ f ∷ fs → es ≡ fs
other_events e f es fs same = cc

no_event : (e : Event) (es fs : List Event) → [] ≡ fs ++ (e ∷ es) → ⊥
no_event e es [] same = cc
no_event e es (f ∷ fs) same = cc

-- an event of a trace is allowed behind the trace of those before it
allowed_there : (setting : Setting) (trace : List Step) (later : List Event) (e : Event) (before : List Event) → IsTrace setting trace
    → newest_first trace ≡ later ++ (e ∷ before)
    → (front : List Step) × IsTrace setting front × (newest_first front ≡ before) × IsAllowed setting front e
allowed_there setting [] later e before x same = absurd (no_event e before later same)
allowed_there setting (s ∷ front) [] e before x same = (
  front,
  x.2,
  other_events s.event e (newest_first front) before same,
  subst (IsAllowed setting front) (first_event s.event e (newest_first front) before same) x.0,
)
allowed_there setting (s ∷ front) (f ∷ later) e before x same =
    allowed_there setting front later e before x.2 (other_events s.event f (newest_first front) (later ++ (e ∷ before)) same)

-- so a trace of events doesn't go past one that isn't
not_past : (setting : Setting) (events : List Event) (i : ℕ) (e : Event) (a b : List Step) → IsWhole setting events a
    → IsWhole setting (take i events) b → slice_get events i ≡ Some e → ¬ (IsMisplaced setting b e)
not_past setting events i e a b x y at refused =
    let before = reverse (take i events) in
    let rest = drop (suc i) events in
    let split : newest_first a ≡ reverse rest ++ (e ∷ before) =
    turned a events x.events_are ∙ ap reverse (sym (around events i e at)) ∙ reverse-append (take i events) (e ∷ rest) ∙ first_behind e rest before in
    let there = allowed_there setting a (reverse rest) e before x.traced split in
    let same : there.0 ≡ b = same_events setting there.0 b there.1 y.traced (there.2 ∙ sym (turned b (take i events) y.events_are)) in
    not_allowed_and_misplaced setting b e (subst (λ (t : List Step). IsAllowed setting t e) same there.3) refused

-- all events have one trace
pub one_whole : (setting : Setting) (events : List Event) (a b : List Step) → IsWhole setting events a → IsWhole setting events b → a ≡ b
one_whole setting events a b x y =
    same_events setting a b x.traced y.traced (turned a events x.events_are ∙ sym (turned b events y.events_are))

-- it isn't there where one isn't allowed
pub whole_or_stopped : (setting : Setting) (events : List Event) (i : ℕ) (a b : List Step) → IsWhole setting events a
    → ¬ (StopsAt setting events i b)
whole_or_stopped setting events i a b x y = not_past setting events i y.event a b x y.before y.event_is y.refused

-- an earlier one isn't the first
not_earlier : (setting : Setting) (events : List Event) (i j : ℕ) (a b : List Step) → i < j → StopsAt setting events i a
    → ¬ (StopsAt setting events j b)
not_earlier setting events i j a b less x y =
    let front = within events i j x.event less x.event_is in
    let before : IsWhole setting (take i (take j events)) a = subst (λ (es : List Event). IsWhole setting es a) (sym front.1) x.before in
    not_past setting (take j events) i x.event b a y.before before front.0 x.refused

-- so one is
pub one_stop : (setting : Setting) (events : List Event) (i j : ℕ) (a b : List Step) → StopsAt setting events i a → StopsAt setting events j b
    → (i ≡ j) × (a ≡ b)
one_stop setting events i j a b x y = elim (cases_order i j) [
  | inl same ↦
      (same, one_whole setting (take j events) a b (subst (λ n. IsWhole setting (take n events) a) same x.before) y.before)
  | inr (inl less) ↦ absurd (not_earlier setting events i j a b less x y)
  | inr (inr more) ↦ absurd (not_earlier setting events j i b a more y x)
]

-- ---- there is one

-- how the events behind a trace go on
record GoesOn (setting : Setting) (trace : List Step) (events : List Event) : Type 0 where
  pub all : List Step
  pub traced : IsTrace setting all
  pub events_are : newest_first all ≡ reverse events ++ newest_first trace

-- and how they stop
record StopsBehind (setting : Setting) (trace : List Step) (events : List Event) : Type 0 where
  pub index : ℕ
  pub before : GoesOn setting trace (take index events)
  pub event : Event
  pub event_is : slice_get events index ≡ Some event
  pub refused : IsMisplaced setting before.all event

-- one of the two
behind : (setting : Setting) (events : List Event) (trace : List Step) → IsTrace setting trace
    → GoesOn setting trace events ⊎ StopsBehind setting trace events
behind setting [] trace x = inl (record { all = trace; traced = x; events_are = refl })
behind setting (e ∷ events) trace x = elim (allowed_or_not setting trace e) [
  | inr refused ↦
      inr (record {
        index = 0;
        before = record { all = trace; traced = x; events_are = refl };
        event = e;
        event_is = refl;
        refused = refused;
      })
  | inl allowed ↦
      let s : Step = record { event = e; outcome = outcome_of setting allowed.0 e } in
      elim (behind setting events (s ∷ trace) (allowed, (allowed.0, allowed.1, refl), x)) [
        | inl whole ↦
            inl (record {
              all = whole.all;
              traced = whole.traced;
              events_are = whole.events_are ∙ sym (first_behind e events (newest_first trace));
            })
        | inr stops ↦
            inr (record {
              index = suc stops.index;
              before = record {
                all = stops.before.all;
                traced = stops.before.traced;
                events_are = stops.before.events_are ∙ sym (first_behind e (take stops.index events) (newest_first trace));
              };
              event = stops.event;
              event_is = stops.event_is;
              refused = stops.refused;
            })
      ]
]

-- of all events from the first on
whole_of : (setting : Setting) (events : List Event) → (x : GoesOn setting [] events) → IsWhole setting events x.all
whole_of setting events x = record {
  traced = x.traced;
  events_are = ap reverse (x.events_are ∙ append-nil (reverse events)) ∙ reverse-reverse events;
}

-- events have a trace, up to the first that isn't allowed
pub run_there : (setting : Setting) (events : List Event)
    → ((trace : List Step) × IsWhole setting events trace) ⊎ ((index : ℕ) × (trace : List Step) × StopsAt setting events index trace)
run_there setting events = elim (behind setting events [] tt) [
  | inl whole ↦ inl (whole.all, whole_of setting events whole)
  | inr stops ↦
      inr (
        stops.index,
        stops.before.all,
        record {
          before = whole_of setting (take stops.index events) stops.before;
          event = stops.event;
          event_is = stops.event_is;
          refused = stops.refused;
        },
      )
]
