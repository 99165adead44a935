-- A step changes each row by that row and the mover's alone; and events fix a hub's trace.
use Rattle.std.proofs.Common.{◌≡◌, ℕ, Bool, List, [], ◌∷◌, length, map, drop, Some, None, refl, sym, ap, ◌∙◌, subst, subst₂, inl, inr, arith}
use Rattle.std.specs.Prelude.{is_some}
use Rattle.model_h1.specs.Setting.{Setting}
use Rattle.model_h1.specs.Event.{Event, Outcome}
use Rattle.model_h1.specs.Sums.{Step, request}
use Rattle.model_h1.specs.Past.{ParsedStep}
use Rattle.model_h1.specs.Closing.{closing}
use Rattle.model_h1.specs.Trace.{IsOutcome}
use Rattle.model_h1.proofs.PastLemmas.{past_of_unique, outcome_unique}
use Rattle.model_rooms.specs.Hub.{HubEvent, opens, feeds, turns, HubOutcome, opened, core, Move, move_by, move_of}
use Rattle.model_rooms.specs.Member.{row_behind}
use Rattle.model_rooms.specs.Seen.{Seen, row_of}
use Rattle.model_rooms.specs.Turn.{turn_event}
use Rattle.model_rooms.specs.Trace.{core_trace, IsTurnEvent, Closes, GoesOn, IsHubStep, IsHubTrace}
use Rattle.model_rooms.proofs.StepViews.{view_of}
use Rattle.model_rooms.proofs.RowLemmas.{row_moved}

-- ---- rows

no_move : (event : HubEvent) (outcome : HubOutcome) (move : Move) → event ≡ opens → move_by event outcome ≡ Some move → ⊥
no_move event outcome move e x = let n : None ≡ Some move = rw e at x in cc

pub each_row : (setting : Setting) (s : Seen) (before : List Seen) (move : Move) (i : ℕ) → IsHubTrace setting (s ∷ before) → move_of s.step ≡ Some move
    → row_of i (s ∷ before)
    ≡ row_behind (request (core_trace move.number before)) s.closes move (row_of move.number before) i (row_of i before)
each_row setting s before move i x e = elim (view_of setting s before x) [
  | inl opening ↦ absurd (no_move s.step.event s.step.outcome move opening e)
  | inr m ↦
      let there : move_by s.step.event s.step.outcome ≡ Some m.move = m.is in
      let here : move_by s.step.event s.step.outcome ≡ Some move = e in
      let same : m.move ≡ move = cc in
      subst (λ (v : Move). row_of i (s ∷ before) ≡ row_behind (request (core_trace v.number before)) s.closes v (row_of v.number before) i (row_of i before))
      same (row_moved setting s before m i)
]

-- ---- events

turn_unique : (setting : Setting) (before : List Seen) (i : ℕ) (e f : Event) → IsTurnEvent setting before i e → IsTurnEvent setting before i f → e ≡ f
turn_unique setting before i e f x y =
    let same = past_of_unique setting (core_trace i before) x.0 y.0 x.1 y.1 in
    x.2 ∙ ap (λ (p : List ParsedStep). turn_event setting p (row_of i before).waiting) same ∙ sym y.2

closes_unique : (setting : Setting) (trace : List Step) (a b : Bool) → Closes setting trace a → Closes setting trace b → a ≡ b
closes_unique setting trace a b x y =
    x.2 ∙ ap (λ (p : List ParsedStep). is_some (closing setting p)) (past_of_unique setting trace x.0 y.0 x.1 y.1) ∙ sym y.2

-- the same outcome, and the same of its closing
record Same (o p : HubOutcome) (a b : Bool) : Type 0 where
  outcome : o ≡ p
  closes : a ≡ b

goes_unique : (setting : Setting) (before : List Seen) (i : ℕ) (e f : Event) (o p : Outcome) (a b : Bool) → e ≡ f
    → GoesOn setting before i e o a → GoesOn setting before i f p b → Same (core e o) (core f p) a b
goes_unique setting before i e f o p a b same x y =
    let here : IsOutcome setting (core_trace i before) f o =
    subst (λ (v : Event). IsOutcome setting (core_trace i before) v o) same x.answers in
    let outcome : o ≡ p = outcome_unique setting (core_trace i before) f o p here y.answers in
    let there : Closes setting (record { event = f; outcome = p } ∷ core_trace i before) a =
    subst₂ (λ (v : Event) (w : Outcome). Closes setting (record { event = v; outcome = w } ∷ core_trace i before) a) same outcome x.closing_is in
    record {
      outcome = cc;
      closes = closes_unique setting (record { event = f; outcome = p } ∷ core_trace i before) a b there y.closing_is;
    }

step_unique : (setting : Setting) (before : List Seen) (event : HubEvent) (o p : HubOutcome) (a b : Bool) → IsHubStep setting before event o a
    → IsHubStep setting before event p b → Same o p a b
step_unique setting before opens (opened n) (opened k) a b x y = record { outcome = ap opened (x.1 ∙ sym y.1); closes = x.2 ∙ sym y.2 }
step_unique setting before opens (opened n) (core e o) a b x y = absurd y
step_unique setting before opens (core e o) p a b x y = absurd x
step_unique setting before (feeds i given) (opened n) p a b x y = absurd x
step_unique setting before (feeds i given) (core e o) (opened n) a b x y = absurd y
step_unique setting before (feeds i given) (core e o) (core f p) a b x y =
    goes_unique setting before i e f o p a b (x.0 ∙ sym y.0) x.2 y.2
step_unique setting before (turns i) (opened n) p a b x y = absurd x
step_unique setting before (turns i) (core e o) (opened n) a b x y = absurd y
step_unique setting before (turns i) (core e o) (core f p) a b x y =
    goes_unique setting before i e f o p a b (turn_unique setting before i e f x.0 y.0) x.1 y.1

abbrev events : List Seen → List HubEvent
events seen = map (λ s. s.step.event) seen

first_event : (e f : HubEvent) (es fs : List HubEvent) → e ∷ es ≡ f ∷ fs → e ≡ f
first_event e f es fs same = cc

pub same_hub : (setting : Setting) (a b : List Seen) → IsHubTrace setting a → IsHubTrace setting b → events a ≡ events b → a ≡ b
same_hub setting [] [] x y e = refl
same_hub setting [] (t ∷ after) x y e = absurd (omega (arith, ap length e))
same_hub setting (s ∷ before) [] x y e = absurd (omega (arith, ap length e))
same_hub setting (s ∷ before) (t ∷ after) x y e =
    let event = first_event s.step.event t.step.event (events before) (events after) e in
    let others = same_hub setting before after x.1 y.1 (ap (drop 1) e) in
    let here = subst₂ (λ (seen : List Seen) (v : HubEvent). IsHubStep setting seen v s.step.outcome s.closes) others event x.0 in
    let same = step_unique setting after t.step.event s.step.outcome t.step.outcome s.closes t.closes here y.0 in
    λ i. record { step = record { event = event i; outcome = same.outcome i }; closes = same.closes i } ∷ others i
