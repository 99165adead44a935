-- A run that grows by a step, behind the trace that the connection stands for.
use Rattle.std.proofs.Common.{◌≡◌, ℕ, ◌+◌, ◌<◌, ◌≤◌, false, List, [], ◌∷◌, ◌++◌, length, get_or, map, take, reverse, Some, refl, sym, ap, ◌∙◌, subst, arith, length-append}
use Rattle.std.proofs.lemmas.List.{map-append, take_more, take_all}
use Rattle.std.proofs.lemmas.Grind.{reverse_onto}
use Rattle.std.specs.Prelude.{option_map, slice_get}
use Rattle.http_config.specs.Config.{Settings}
use Rattle.model_h1.specs.Event as on
use Rattle.model_h1.specs.Sums as sums
use Rattle.model_h1.specs.Sums.{written}
use Rattle.model_h1.proofs.WrittenLemmas.{written_buffered}
use Rattle.model_h1.proofs.HandedParsed.{handed_prefix}
use Rattle.model_state.specs.Local.{closing_by, allowed_by}
use Rattle.model_h1.specs.Trace as traces
use Rattle.model_state.proofs.Stands.{fresh_stands, misplaced_of_trace}
use Rattle.model_state.specs.Runs.{runs_behind}
use Rattle.model_state.specs.Marks.{body_runs}
use Rattle.h1_connection.proofs.GoesOnLemmas.{buffered_traced, closing_traced}
use Rattle.h1_connection.specs.EventMeaning.{setting_of, event_of, end_of, SaysOutcome}
use Rattle.h1_connection.specs.State.{State, fresh_state, Stands, IsMarked, GoesOn}
use Rattle.h1_connection.specs.Run.{SaysStep, SaySteps, IsDriven, IsWhole, IsMisplaced}
use Rattle.h1_connection.specs.Steps.{paired, Notes}
use Rattle.h1_connection.proofs.TraceLemmas.{paired_push}
use Rattle.h1_connection.specs.declared.event.Event.{Event}
use Rattle.h1_connection.specs.declared.event.Outcome.{Outcome}
use Rattle.h1_connection.specs.declared.noted.Noted.{Noted}
use Rattle.h1_connection.specs.declared.trace.Step.{Step}
use Rattle.h1_connection.specs.declared.trace.Trace.{Trace}

-- ---- a step

-- of an event that is this one
pub at_event : (now after : State) (event other : Event) (outcome : Outcome) → event ≡ other → GoesOn now (event_of other) (SaysOutcome outcome) after
    → GoesOn now (event_of event) (SaysOutcome outcome) after
at_event now after event other outcome is goes = subst (λ (e : Event). GoesOn now (event_of e) (SaysOutcome outcome) after) (sym is) goes

-- and of an outcome that says what another one does
pub says_more : (now after : State) (event : on.Event) (P : on.Outcome → Type 0) (outcome : Outcome) → ((out : on.Outcome) → P out → SaysOutcome outcome out)
    → GoesOn now event P after → GoesOn now event (SaysOutcome outcome) after
says_more now after event P outcome says goes = λ trace stands.
    let x = goes trace stands in (x.0, says x.0 x.1, x.2, x.3, x.4, x.5)

-- ---- a run

-- what a loop over the events has done before the one at the index
pub record IsDrivenTo (settings : Settings) (events : List Event) (index : ℕ) (steps : List Step) (now : State) : Type 0 where
  pub settings_are : now.settings ≡ settings
  pub events_are : map (λ (step : Step). step.event) steps ≡ take index events
  pub model : List sums.Step
  pub stands : Stands (record { settings = settings; kept = now.kept; marks = now.marks; ahead = now.ahead }) model
  pub says : SaySteps steps (reverse model)

-- no body byte waits in a new connection
pub new_marked : (settings : Settings) → IsMarked (fresh_state settings) []
unfolding body_runs runs_behind
new_marked settings = refl

-- before the first one
pub driven_new : (settings : Settings) (events : List Event) (steps : List Step) (now : State) → steps ≡ [] → now ≡ fresh_state settings
    → IsDrivenTo settings events 0 steps now
driven_new settings events steps now empty is =
    subst (λ (k : State). IsDrivenTo settings events 0 steps k) (sym is)
    (subst (λ (l : List Step). IsDrivenTo settings events 0 l (fresh_state settings)) (sym empty)
    (record { settings_are = refl; events_are = refl; model = []; stands = fresh_stands (setting_of settings); says = tt }))

-- one more step on both sides
say_more : (ss : List Step) (ts : List sums.Step) (s : Step) (t : sums.Step) → SaySteps ss ts → SaysStep s t → SaySteps (ss ++ s ∷ []) (ts ++ t ∷ [])
say_more [] [] s t x y = (y, tt)
say_more [] (u ∷ ts) s t x y = absurd x
say_more (r ∷ ss) [] s t x y = absurd x
say_more (r ∷ ss) (u ∷ ts) s t x y = (x.0, say_more ss ts s t x.1 y)

-- the loop's next state, behind the answer to one more event
pub driven_more : (settings : Settings) (events : List Event) (index : ℕ) (steps : List Step) (now after : State) (event : Event) (outcome : Outcome)
    → index < length events → event ≡ get_or events index event → IsDrivenTo settings events index steps now
    → GoesOn now (event_of event) (SaysOutcome outcome) after → after.settings ≡ now.settings
    → IsDrivenTo settings events (index + 1) (steps ++ (record { event = event; outcome = outcome }) ∷ []) after
driven_more settings events index steps now after event outcome in_range is driven goes same =
    let stands = subst (λ (s : Settings). Stands (record { settings = s; kept = now.kept; marks = now.marks; ahead = now.ahead }) driven.model) (sym driven.settings_are) driven.stands in
    let next = goes driven.model stands in
    let step : sums.Step = record { event = event_of event; outcome = next.0 } in
    record {
      settings_are = same ∙ driven.settings_are;
      events_are =
          map-append (λ (s : Step). s.event) steps ((record { event = event; outcome = outcome }) ∷ [])
          ∙ ap (λ (done : List Event). done ++ event ∷ []) driven.events_are
          ∙ ap (λ (e : Event). take index events ++ e ∷ []) is
          ∙ sym (take_more events index event in_range);
      model = step ∷ driven.model;
      stands = subst (λ (s : Settings). Stands (record { settings = s; kept = after.kept; marks = after.marks; ahead = after.ahead }) (step ∷ driven.model)) (same ∙ driven.settings_are) next.3;
      says =
          subst (λ (l : List sums.Step). SaySteps (steps ++ (record { event = event; outcome = outcome }) ∷ []) l) (sym (reverse_onto driven.model step []))
          (say_more steps (reverse driven.model) (record { event = event; outcome = outcome }) step driven.says (record { event = refl; outcome = next.1 }));
    }

-- ---- its outcomes as they are noted

-- what the loop has done, by what it noted
pub record IsNotedTo (settings : Settings) (events : List Event) (index : ℕ) (noted : List Noted) (now : State) : Type 0 where
  pub driven : IsDrivenTo settings events index (paired events noted) now
  pub counted : length noted ≡ index

-- before the first event
pub noted_new : (settings : Settings) (events : List Event) (noted : List Noted) (now : State) → noted ≡ [] → now ≡ fresh_state settings
    → IsNotedTo settings events 0 noted now
noted_new settings events noted now empty is =
    record { driven = driven_new settings events (paired events noted) now (ap (λ l. paired events l) empty) is; counted = ap length empty }

-- behind one more
pub noted_more : (settings : Settings) (events : List Event) (index : ℕ) (noted more : List Noted) (now after : State) (event : Event) (outcome : Outcome)
    → index < length events → event ≡ get_or events index event → IsNotedTo settings events index noted now
    → GoesOn now (event_of event) (SaysOutcome outcome) after → after.settings ≡ now.settings → Notes noted outcome more
    → IsNotedTo settings events (index + 1) more after
noted_more settings events index noted more now after event outcome in_range is x goes same notes =
    let there : event ≡ get_or events (length noted) event = is ∙ ap (λ n. get_or events n event) (sym x.counted) in
    let grown : paired events more ≡ paired events noted ++ (record { event = event; outcome = outcome }) ∷ [] =
    ap (λ l. paired events l) notes.are ∙ paired_push events noted event notes.last (omega (arith, in_range, x.counted)) there
    ∙ (λ i. paired events noted ++ (record { event = event; outcome = notes.is_last i }) ∷ []) in
    record {
      driven = subst (λ (l : List Step). IsDrivenTo settings events (index + 1) l after) (sym grown)
          (driven_more settings events index (paired events noted) now after event outcome in_range is x.driven goes same);
      counted = omega (arith, ap length notes.are, length-append noted (notes.last ∷ []), x.counted);
    }

-- ---- what the run gives

pub run_of : (settings : Settings) (events : List Event) (index : ℕ) (steps : List Step) (now : State) (trace : Trace) → (x : IsDrivenTo settings events index steps now)
    → trace.steps ≡ steps → trace.buffered ≡ now.kept.buffered → option_map end_of trace.closing ≡ closing_by (setting_of now.settings) now.kept
    → IsDriven settings (take index events) trace x.model
run_of settings events index steps now trace x steps_are buffered_are closing_is =
    let set = setting_of settings in
    let at : State = record { settings = settings; kept = now.kept; marks = now.marks; ahead = now.ahead } in
    record {
      traced = x.stands.traced;
      says = subst (λ (l : List Step). SaySteps l (reverse x.model)) (sym steps_are) x.says;
      events_are = ap (λ (l : List Step). map (λ (s : Step). s.event) l) steps_are ∙ x.events_are;
      handed = λ parse parsed. handed_prefix set x.model parse x.stands.traced parsed;
      text_is =
          ap (λ (l : List ℕ). written x.model ++ l) (buffered_are ∙ buffered_traced at x.model x.stands)
          ∙ written_buffered set x.model x.stands.traced;
      closing_is = λ past is_past.
          closing_is ∙ ap (λ (s : Settings). closing_by (setting_of s) now.kept) x.settings_are ∙ closing_traced at x.model past x.stands is_past;
    }

pub whole_of : (settings : Settings) (events : List Event) (index : ℕ) (steps : List Step) (now : State) (trace : Trace) → IsDrivenTo settings events index steps now
    → trace.steps ≡ steps → trace.buffered ≡ now.kept.buffered → option_map end_of trace.closing ≡ closing_by (setting_of now.settings) now.kept
    → length events ≤ index → IsWhole settings events trace
whole_of settings events index steps now trace x steps_are buffered_are closing_is all =
    record {
      model = x.model;
      driven = subst (λ (l : List Event). IsDriven settings l trace x.model) (take_all index events all)
          (run_of settings events index steps now trace x steps_are buffered_are closing_is);
    }

-- an event that isn't allowed is misplaced
refused_at : (at : State) (model : List sums.Step) (event : on.Event) (stands : Stands at model) → allowed_by (setting_of at.settings) at.kept event ≡ false
    → traces.IsMisplaced (setting_of at.settings) model event
refused_at at model event stands refused = (misplaced_of_trace (setting_of at.settings) at.kept model event stands).0 refused

pub misplaced_of : (settings : Settings) (events : List Event) (index : ℕ) (steps : List Step) (now : State) (trace : Trace) (event : Event)
    → IsDrivenTo settings events index steps now
    → trace.steps ≡ steps → trace.buffered ≡ now.kept.buffered → option_map end_of trace.closing ≡ closing_by (setting_of now.settings) now.kept
    → slice_get events index ≡ Some event → allowed_by (setting_of now.settings) now.kept (event_of event) ≡ false
    → IsMisplaced settings events index trace
misplaced_of settings events index steps now trace event x steps_are buffered_are closing_is there refused =
    record {
      model = x.model;
      driven = run_of settings events index steps now trace x steps_are buffered_are closing_is;
      event = event;
      event_is = there;
      refused =
          refused_at (record { settings = settings; kept = now.kept; marks = now.marks; ahead = now.ahead }) x.model (event_of event) x.stands
          (ap (λ (s : Settings). allowed_by (setting_of s) now.kept (event_of event)) (sym x.settings_are) ∙ refused);
    }
