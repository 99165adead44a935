-- The laws of states that stand for traces.
use Rattle.std.proofs.Common.{◌≡◌, List, [], ◌∷◌, length, drop, refl, sym, ap, ◌∙◌, subst, subst₂, arith}
use Rattle.std.specs.Prelude.{IsTrue, IsFalse, ◌↔◌}
use Rattle.model_h1.specs.Setting.{Setting}
use Rattle.model_h1.specs.Event.{Event, Outcome}
use Rattle.model_h1.specs.Sums.{Step, taken, written, accepted, last_tick, first_tick, completed_at, request, since_head, answered, answer_len, is_sending, is_receiving}
use Rattle.model_h1.specs.Past.{ParsedStep, steps, input_of}
use Rattle.model_h1.specs.Text.{text}
use Rattle.model_h1.specs.Closing.{told, closing, closing_since}
use Rattle.model_h1.specs.Allowed.{is_allowed}
use Rattle.model_h1.specs.OutcomeTable.{outcome_of}
use Rattle.model_h1.specs.Trace.{IsPastOf, IsAllowed, IsMisplaced, IsOutcome, IsTrace}
use Rattle.model_h1.proofs.MessageExistence.{parse_exists}
use Rattle.model_h1.proofs.PastLemmas.{first_step, Legal, legal_of, past_of_unique, allowed_behind}
use Rattle.model_state.specs.Kept.{Kept, fresh}
use Rattle.model_state.specs.Local.{closing_by, allowed_by}
use Rattle.model_state.specs.Change.{IsStep}
use Rattle.model_state.specs.KeptOf.{kept_of}
use Rattle.model_state.specs.StandsFor.{StandsFor}
use Rattle.model_state.proofs.OneStep.{outcome_one, state_one}
use Rattle.model_state.proofs.Kernel.{closing_of, allowed_of}
use Rattle.model_state.proofs.TableSteps.{table_step}

-- ---- the empty trace

-- what the empty past gives
fresh_kept : (setting : Setting) → fresh ≡ kept_of setting []
unfolding taken written accepted last_tick first_tick completed_at request since_head answered answer_len is_sending is_receiving text told closing_since
fresh_kept setting = refl

-- a connection to which nothing has happened stands for it
pub fresh_stands : (setting : Setting) → StandsFor setting fresh []
fresh_stands setting = record { traced = tt; past = []; of_trace = record { same = refl; right = tt }; parts = fresh_kept setting }

-- ---- every trace

-- what is kept tells why the connection closes
pub closing_stands : (setting : Setting) (past : List ParsedStep) (trace : List Step) → IsTrace setting trace → IsPastOf setting trace past
    → closing_by setting (kept_of setting past) ≡ closing setting past
closing_stands setting past trace x y = closing_of setting past (legal_of setting trace past x y)

-- so does what stands for a trace
pub closing_of_trace : (setting : Setting) (k : Kept) (trace : List Step) (past : List ParsedStep) → StandsFor setting k trace
    → IsPastOf setting trace past → closing_by setting k ≡ closing setting past
closing_of_trace setting k trace past x y =
    ap (closing_by setting) x.parts ∙ closing_stands setting x.past trace x.traced x.of_trace
    ∙ ap (closing setting) (past_of_unique setting trace x.past past x.of_trace y)

-- and what is allowed
pub allowed_stands : (setting : Setting) (past : List ParsedStep) (trace : List Step) (event : Event) → IsTrace setting trace
    → IsPastOf setting trace past
    → allowed_by setting (kept_of setting past) event ≡ is_allowed setting past event
allowed_stands setting past trace event x y = allowed_of setting past event (legal_of setting trace past x y)

-- the same of what stands for a trace
allowed_here : (setting : Setting) (k : Kept) (trace : List Step) (event : Event) (x : StandsFor setting k trace)
    → allowed_by setting k event ≡ is_allowed setting x.past event
allowed_here setting k trace event x =
    ap (λ (k : Kept). allowed_by setting k event) x.parts ∙ allowed_stands setting x.past trace event x.traced x.of_trace

-- what it says is allowed is just what is allowed behind the trace
pub allowed_of_trace : (setting : Setting) (k : Kept) (trace : List Step) (event : Event) → StandsFor setting k trace
    → IsTrue (allowed_by setting k event) ↔ IsAllowed setting trace event
allowed_of_trace setting k trace event x =
    let same = allowed_here setting k trace event x in
    (λ is. (x.past, x.of_trace, subst IsTrue same is), λ a. subst IsTrue (sym same) (allowed_behind setting trace event x.past a x.of_trace))

-- an event isn't allowed behind the past of a trace behind which it isn't
misplaced_behind : (setting : Setting) (trace : List Step) (event : Event) (past : List ParsedStep) → IsMisplaced setting trace event
    → IsPastOf setting trace past → IsFalse (is_allowed setting past event)
misplaced_behind setting trace event past a y =
    subst (λ (p : List ParsedStep). IsFalse (is_allowed setting p event)) (past_of_unique setting trace a.0 past a.1 y) a.2

-- and what it says isn't is just what isn't
pub misplaced_of_trace : (setting : Setting) (k : Kept) (trace : List Step) (event : Event) → StandsFor setting k trace
    → IsFalse (allowed_by setting k event) ↔ IsMisplaced setting trace event
misplaced_of_trace setting k trace event x =
    let same = allowed_here setting k trace event x in
    (λ is. (x.past, x.of_trace, subst IsFalse same is), λ a. subst IsFalse (sym same) (misplaced_behind setting trace event x.past a x.of_trace))

-- ---- a step of the table

-- an allowed event with the table's outcome is a step
pub table_steps : (setting : Setting) (s : Step) (before : List Step) (p q : List ParsedStep) → IsTrace setting (s ∷ before)
    → IsPastOf setting before p
    → IsPastOf setting (s ∷ before) q → IsStep setting (kept_of setting p) s.event s.outcome (kept_of setting q)
table_steps setting s before p [] t x y = absurd (omega (arith, ap length y.same))
table_steps setting s before p (m ∷ after) t x y =
    let earlier : IsPastOf setting before after = record { same = ap (drop 1) y.same; right = y.right.1 } in
    let same = past_of_unique setting before after p earlier x in
    let l = legal_of setting (s ∷ before) (m ∷ after) t y in
    let first = first_step m.step s (steps after) before y.same in
    let P : Step → List ParsedStep → Type 0 = λ r b. IsStep setting (kept_of setting b) r.event r.outcome (kept_of setting (m ∷ after)) in
    subst₂ P first same (table_step setting after m l)

-- ---- a step of a state

-- The table's step behind a legal past: the last step of a longer past.
record LastStep (setting : Setting) (past : List ParsedStep) (event : Event) : Type 0 where
  pub allowed : IsTrue (is_allowed setting past event)
  pub last : ParsedStep
  pub step_is : last.step ≡ record { event = event; outcome = outcome_of setting past event }
  pub legal : Legal setting (last ∷ past)
  pub steps : IsStep setting (kept_of setting past) event (outcome_of setting past event) (kept_of setting (last ∷ past))

-- an allowed event has one
last_step : (setting : Setting) (past : List ParsedStep) (event : Event) → Legal setting past
    → IsTrue (allowed_by setting (kept_of setting past) event) → LastStep setting past event
last_step setting past event l allowed =
    let ok : IsTrue (is_allowed setting past event) = subst IsTrue (allowed_of setting past event l) allowed in
    let s : Step = record { event = event; outcome = outcome_of setting past event } in
    let parse = parse_exists (input_of setting (s ∷ steps past)) in
    let y : ParsedStep = record { step = s; parse = parse.0 } in
    let longer : Legal setting (y ∷ past) = (parse.1, ok, refl, l) in
    record { allowed = ok; last = y; step_is = refl; legal = longer; steps = table_step setting past y longer }

-- The step that the table says, behind the past of a trace: the outcome and the state of each step are its own.
record TableStep (setting : Setting) (past : List ParsedStep) (event : Event) (o : Outcome) (next : Kept) : Type 0 where
  pub allowed : IsTrue (is_allowed setting past event)
  pub outcome : o ≡ outcome_of setting past event
  pub last : ParsedStep
  pub step_is : last.step ≡ record { event = event; outcome = outcome_of setting past event }
  pub legal : Legal setting (last ∷ past)
  pub state : next ≡ kept_of setting (last ∷ past)

-- a step of a state is the table's
table_step_of : (setting : Setting) (past : List ParsedStep) (event : Event) (o : Outcome) (next : Kept) → Legal setting past
    → IsTrue (allowed_by setting (kept_of setting past) event)
    → IsStep setting (kept_of setting past) event o next → TableStep setting past event o next
table_step_of setting past event o next l allowed x =
    let t = last_step setting past event l allowed in
    record {
      allowed = t.allowed;
      outcome = outcome_one setting (kept_of setting past) event o (outcome_of setting past event) next (kept_of setting (t.last ∷ past)) x t.steps;
      last = t.last;
      step_is = t.step_is;
      legal = t.legal;
      state = state_one setting (kept_of setting past) event o (outcome_of setting past event) next (kept_of setting (t.last ∷ past)) x t.steps;
    }

-- the same of a state that stands for a trace
stands_step : (setting : Setting) (k next : Kept) (trace : List Step) (event : Event) (o : Outcome) → (x : StandsFor setting k trace)
    → IsTrue (allowed_by setting k event) → IsStep setting k event o next → TableStep setting x.past event o next
stands_step setting k next trace event o x allowed step =
    table_step_of setting x.past event o next (legal_of setting trace x.past x.traced x.of_trace)
    (subst (λ (k : Kept). IsTrue (allowed_by setting k event)) x.parts allowed) (subst (λ (k : Kept). IsStep setting k event o next) x.parts step)

-- each allowed event has a step
pub a_step_is_there : (setting : Setting) (k : Kept) (trace : List Step) (event : Event) → StandsFor setting k trace
    → IsTrue (allowed_by setting k event) → (outcome : Outcome) × (next : Kept) × IsStep setting k event outcome next
a_step_is_there setting k trace event x allowed =
    let t = last_step setting x.past event (legal_of setting trace x.past x.traced x.of_trace)
    (subst (λ (k : Kept). IsTrue (allowed_by setting k event)) x.parts allowed) in
    let outcome = outcome_of setting x.past event in
    let next = kept_of setting (t.last ∷ x.past) in
    (outcome, next, subst (λ (k : Kept). IsStep setting k event outcome next) (sym x.parts) t.steps)

-- its outcome is the table's
pub step_outcome : (setting : Setting) (k next : Kept) (trace : List Step) (event : Event) (o : Outcome) → StandsFor setting k trace
    → IsTrue (allowed_by setting k event) → IsStep setting k event o next → IsOutcome setting trace event o
step_outcome setting k next trace event o x allowed step =
    (x.past, x.of_trace, (stands_step setting k next trace event o x allowed step).outcome)

-- and the state behind it stands for the longer trace
pub step_state : (setting : Setting) (k next : Kept) (trace : List Step) (event : Event) (o : Outcome) → StandsFor setting k trace
    → IsTrue (allowed_by setting k event) → IsStep setting k event o next → StandsFor setting next (record { event = event; outcome = o } ∷ trace)
step_state setting k next trace event o x allowed step =
    let t = stands_step setting k next trace event o x allowed step in
    let last : t.last.step ≡ record { event = event; outcome = o } = t.step_is ∙ (λ i. record { event = event; outcome = sym t.outcome i }) in
    record {
      traced = ((x.past, x.of_trace, t.allowed), (x.past, x.of_trace, t.outcome), x.traced);
      past = t.last ∷ x.past;
      of_trace = record { same = λ i. last i ∷ x.of_trace.same i; right = (t.legal.0, x.of_trace.right) };
      parts = t.state;
    }
