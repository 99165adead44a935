-- A trace has one past, and each event of it is allowed and has its outcome behind the past in front of it.
use Rattle.std.proofs.Common.{◌≡◌, List, [], ◌∷◌, refl, sym, ap, ◌∙◌, subst}
use Rattle.std.specs.Prelude.{IsTrue, ⊤}
use Rattle.model_h1.specs.Parse.{IsParse}
use Rattle.model_h1.specs.Setting.{Setting}
use Rattle.model_h1.specs.Event.{Event, Outcome}
use Rattle.model_h1.specs.Sums.{Step}
use Rattle.model_h1.specs.Past.{ParsedStep, steps, input_of, IsPast}
use Rattle.model_h1.specs.Allowed.{is_allowed}
use Rattle.model_h1.specs.OutcomeTable.{outcome_of}
use Rattle.model_h1.specs.Trace.{IsPastOf, IsAllowed, IsOutcome, IsTrace}
use Rattle.model_h1.proofs.MessageLemmas.{messages_unique}

-- the first step and the others of a list of steps
pub first_step : (s t : Step) (ss ts : List Step) → s ∷ ss ≡ t ∷ ts → s ≡ t
first_step s t ss ts e = cc

-- and the same others
other_steps : (s t : Step) (ss ts : List Step) → s ∷ ss ≡ t ∷ ts → ss ≡ ts
other_steps s t ss ts e = cc

-- no step is not some
no_step : (s : Step) (ss : List Step) → [] ≡ s ∷ ss → ⊥
no_step s ss e = cc

-- the same steps have one past
pub past_unique : (setting : Setting) (p q : List ParsedStep) → steps p ≡ steps q → IsPast setting p → IsPast setting q → p ≡ q
past_unique setting [] [] e x y = refl
past_unique setting [] (n ∷ after) e x y = absurd (no_step n.step (steps after) e)
past_unique setting (m ∷ before) [] e x y = absurd (no_step m.step (steps before) (sym e))
past_unique setting (m ∷ before) (n ∷ after) e x y =
    let step = first_step m.step n.step (steps before) (steps after) e in
    let same = past_unique setting before after (other_steps m.step n.step (steps before) (steps after) e) x.1 y.1 in
    let parse : m.parse ≡ n.parse = messages_unique (input_of setting (n.step ∷ steps after)) 0 m.parse n.parse
    (subst (λ (trace : List Step). IsParse (input_of setting trace) m.parse) e x.0) y.0 in
    λ i. record { step = step i; parse = parse i } ∷ same i

-- a trace has one past
pub past_of_unique : (setting : Setting) (trace : List Step) (p q : List ParsedStep) → IsPastOf setting trace p → IsPastOf setting trace q → p ≡ q
past_of_unique setting trace p q x y = past_unique setting p q (x.same ∙ sym y.same) x.right y.right

-- an event has one outcome
pub outcome_unique : (setting : Setting) (trace : List Step) (event : Event) (a b : Outcome)
    → IsOutcome setting trace event a → IsOutcome setting trace event b → a ≡ b
outcome_unique setting trace event a b x y =
    x.2 ∙ ap (λ (past : List ParsedStep). outcome_of setting past event) (past_of_unique setting trace x.0 y.0 x.1 y.1) ∙ sym y.2

-- an event is allowed behind the past of the trace
pub allowed_behind : (setting : Setting) (trace : List Step) (event : Event) (past : List ParsedStep)
    → IsAllowed setting trace event → IsPastOf setting trace past → IsTrue (is_allowed setting past event)
allowed_behind setting trace event past x y =
    subst (λ (p : List ParsedStep). IsTrue (is_allowed setting p event)) (past_of_unique setting trace x.0 past x.1 y) x.2

-- Each parse is that of the bytes taken by then, each event is allowed where it comes, and its outcome is
-- the table's.
abbrev pub Legal : Setting → List ParsedStep → Type 0
Legal setting [] = ⊤
Legal setting (m ∷ before) =
    IsParse (input_of setting (m.step ∷ steps before)) m.parse × IsTrue (is_allowed setting before m.step.event)
    × (m.step.outcome ≡ outcome_of setting before m.step.event) × Legal setting before

-- the past of a trace is legal
pub legal : (setting : Setting) (past : List ParsedStep) → IsTrace setting (steps past) → IsPast setting past → Legal setting past
legal setting [] x y = tt
legal setting (m ∷ before) x y =
    let here : IsPastOf setting (steps before) before = record { same = refl; right = y.1 } in
    let behind : IsOutcome setting (steps before) m.step.event (outcome_of setting before m.step.event) = (before, here, refl) in (
      y.0,
      allowed_behind setting (steps before) m.step.event before x.0 here,
      outcome_unique setting (steps before) m.step.event m.step.outcome _ x.1 behind,
      legal setting before x.2 y.1,
    )

-- the past of a trace is legal, whatever the trace is called
pub legal_of : (setting : Setting) (trace : List Step) (past : List ParsedStep) → IsTrace setting trace → IsPastOf setting trace past
    → Legal setting past
legal_of setting trace past x y = legal setting past (subst (IsTrace setting) (sym y.same) x) y.right
