-- The events fix the trace of a run.
use Rattle.std.proofs.Common.{◌≡◌, ℕ, List, [], ◌∷◌, ◌++◌, map, take, reverse, refl, sym, ap, ◌∙◌, subst}
use Rattle.std.specs.Prelude.{option_map}
use Rattle.std.proofs.lemmas.List.{reverse-reverse, map-append, take-map}
use Rattle.std.proofs.lemmas.Option.{slice_get-map}
use Rattle.std.proofs.lemmas.Grind.{reverse_onto}
use Rattle.http_config.specs.Config.{Settings}
use Rattle.model_h1.specs.Event as on
use Rattle.model_h1.specs.Sums as sums
use Rattle.model_h1.specs.Laws.Runs as runs
use Rattle.model_h1.proofs.EventLemmas.{same_events}
use Rattle.model_h1.proofs.EventRuns.{one_stop, whole_or_stopped}
use Rattle.h1_connection.specs.EventMeaning.{setting_of, event_of}
use Rattle.h1_connection.specs.Run.{SaySteps, IsDriven, IsWhole, IsMisplaced, AreAllowed, IsFirstRefused}
use Rattle.h1_connection.specs.declared.event.Event.{Event}
use Rattle.h1_connection.specs.declared.trace.Step.{Step}
use Rattle.h1_connection.specs.declared.trace.Trace.{Trace}

map_reversed : {A B : Type 0} (f : A → B) (xs : List A) → map f (reverse xs) ≡ reverse (map f xs)
map_reversed f [] = refl
map_reversed f (x ∷ xs) =
    ap (map f) (reverse_onto xs x []) ∙ map-append f (reverse xs) (x ∷ []) ∙ ap (λ l. l ++ f x ∷ []) (map_reversed f xs) ∙ sym (reverse_onto (map f xs) (f x) [])

says_events : (ss : List Step) (ts : List sums.Step) → SaySteps ss ts → map (λ (t : sums.Step). t.event) ts ≡ map event_of (map (λ (s : Step). s.event) ss)
says_events [] [] says = refl
says_events [] (t ∷ ts) says = absurd says
says_events (s ∷ ss) [] says = absurd says
says_events (s ∷ ss) (t ∷ ts) says = λ i. says.0.event i ∷ says_events ss ts says.1 i

-- the events of the model's trace, the newest first
driven_events : (settings : Settings) (events : List Event) (trace : Trace) (model : List sums.Step) → IsDriven settings events trace model
    → map (λ (t : sums.Step). t.event) model ≡ reverse (map event_of events)
driven_events settings events trace model x =
    ap (map (λ (t : sums.Step). t.event)) (sym (reverse-reverse model))
    ∙ map_reversed (λ (t : sums.Step). t.event) (reverse model)
    ∙ ap (λ (l : List on.Event). reverse l) (says_events trace.steps (reverse model) x.says ∙ ap (map event_of) x.events_are)

pub whole_fixed : (settings : Settings) (events : List Event) (a b : Trace) (x : IsWhole settings events a) (y : IsWhole settings events b) → x.model ≡ y.model
whole_fixed settings events a b x y =
    same_events (setting_of settings) x.model y.model x.driven.traced y.driven.traced
    (driven_events settings events a x.model x.driven ∙ sym (driven_events settings events b y.model y.driven))

-- ---- which of the two comes

-- a run in the model
driven_run : (settings : Settings) (events : List Event) (trace : Trace) (model : List sums.Step) → IsDriven settings events trace model
    → runs.IsWhole (setting_of settings) (map event_of events) model
driven_run settings events trace model x =
    record {
      traced = x.traced;
      events_are = ap (λ (l : List on.Event). reverse l) (driven_events settings events trace model x) ∙ reverse-reverse (map event_of events);
    }

stopped_run : (settings : Settings) (events : List Event) (index : ℕ) (trace : Trace) (x : IsMisplaced settings events index trace)
    → runs.StopsAt (setting_of settings) (map event_of events) index x.model
stopped_run settings events index trace x =
    record {
      before = subst (λ (l : List on.Event). runs.IsWhole (setting_of settings) l x.model) (sym (take-map event_of index events))
          (driven_run settings (take index events) trace x.model x.driven);
      event = event_of x.event;
      event_is = slice_get-map event_of events index ∙ ap (option_map event_of) x.event_is;
      refused = x.refused;
    }

-- where each is allowed none is refused
pub none_refused : (settings : Settings) (events : List Event) (index : ℕ) (trace : Trace) → IsMisplaced settings events index trace
    → AreAllowed settings events → ⊥
none_refused settings events index trace x allowed =
    whole_or_stopped (setting_of settings) (map event_of events) index allowed.0 x.model allowed.1 (stopped_run settings events index trace x)

-- the one that is refused is the first
pub first_refused : (settings : Settings) (events : List Event) (index other : ℕ) (trace : Trace) → IsMisplaced settings events index trace
    → IsFirstRefused settings events other → index ≡ other
first_refused settings events index other trace x first =
    (one_stop (setting_of settings) (map event_of events) index other x.model first.0 (stopped_run settings events index trace x) first.1).0

-- and where there is one, not all are answered
pub not_whole : (settings : Settings) (events : List Event) (index : ℕ) (trace : Trace) → IsWhole settings events trace
    → IsFirstRefused settings events index → ⊥
not_whole settings events index trace x first =
    whole_or_stopped (setting_of settings) (map event_of events) index x.model first.0 (driven_run settings events trace x.model x.driven) first.1
