-- What a step of a hub is: an opening, or a move of one connection; and what happens to one connection is a trace.
use Rattle.std.proofs.Common.{◌≡◌, ℕ, ◌⊎◌, Bool, true, false, List, [], ◌∷◌, IsTrue, Some, refl, sym, subst, inl, inr, ◌==◌}
use Rattle.std.proofs.lemmas.Bool.{cases_Bool, eqb-true}
use Rattle.model_h1.specs.Setting.{Setting}
use Rattle.model_h1.specs.Trace.{IsAllowed, IsOutcome, IsTrace}
use Rattle.model_rooms.specs.Hub.{HubEvent, opens, feeds, turns, HubOutcome, opened, core, Move, move_by, core_of}
use Rattle.model_rooms.specs.Member.{Member, with_opened}
use Rattle.model_rooms.specs.Seen.{Seen}
use Rattle.model_rooms.specs.Trace.{is_fed, core_trace, IsTurnEvent, GoesOn, IsHubStep, IsHubTrace}

-- the step moves a connection
pub record Moved (setting : Setting) (before : List Seen) (event : HubEvent) (outcome : HubOutcome) (closes : Bool) : Type 0 where
  pub move : Move
  pub is : move_by event outcome ≡ Some move
  pub rows : (ms : List Member) → with_opened event ms ≡ ms
  pub goes : GoesOn setting before move.number move.step.event move.step.outcome closes
  pub from : IsTrue (is_fed move.step.event) ⊎ IsTurnEvent setting before move.number move.step.event

pub view : (setting : Setting) (before : List Seen) (event : HubEvent) (outcome : HubOutcome) (closes : Bool)
    → IsHubStep setting before event outcome closes → (event ≡ opens) ⊎ Moved setting before event outcome closes
view setting before opens outcome closes x = inl refl
view setting before (feeds i given) (opened n) closes x = absurd x
view setting before (feeds i given) (core event outcome) closes x = inr (record {
  move = record { number = i; step = record { event = event; outcome = outcome } };
  is = refl;
  rows = λ ms. refl;
  goes = x.2;
  from = inl (subst (λ e. IsTrue (is_fed e)) (sym x.0) x.1);
})
view setting before (turns i) (opened n) closes x = absurd x
view setting before (turns i) (core event outcome) closes x = inr (record {
  move = record { number = i; step = record { event = event; outcome = outcome } };
  is = refl;
  rows = λ ms. refl;
  goes = x.1;
  from = inr x.0;
})

-- the view of the newest step of a trace
pub view_of : (setting : Setting) (s : Seen) (before : List Seen) → IsHubTrace setting (s ∷ before)
    → (s.step.event ≡ opens) ⊎ Moved setting before s.step.event s.step.outcome s.closes
view_of setting s before x = view setting before s.step.event s.step.outcome s.closes x.0

-- ---- the trace of one connection

pub core_opening : (i : ℕ) (s : Seen) (before : List Seen) → s.step.event ≡ opens → core_trace i (s ∷ before) ≡ core_trace i before
unfolding core_of
core_opening i s before e = rw e refl

pub core_own : (setting : Setting) (i : ℕ) (s : Seen) (before : List Seen) (m : Moved setting before s.step.event s.step.outcome s.closes)
    → (i == m.move.number) ≡ true → core_trace i (s ∷ before) ≡ m.move.step ∷ core_trace i before
unfolding core_of
core_own setting i s before m e = rw (m.is, e) refl

pub core_other : (setting : Setting) (i : ℕ) (s : Seen) (before : List Seen) (m : Moved setting before s.step.event s.step.outcome s.closes)
    → (i == m.move.number) ≡ false → core_trace i (s ∷ before) ≡ core_trace i before
unfolding core_of
core_other setting i s before m e = rw (m.is, e) refl

-- what a connection's own step adds to its trace is a step of it
pub own_step : (setting : Setting) (i : ℕ) (s : Seen) (before : List Seen) (m : Moved setting before s.step.event s.step.outcome s.closes)
    → (i == m.move.number) ≡ true → IsTrace setting (core_trace i before) → IsTrace setting (m.move.step ∷ core_trace i before)
own_step setting i s before m e x =
    let number : m.move.number ≡ i = sym (eqb-true i m.move.number e) in (
      subst (λ (k : ℕ). IsAllowed setting (core_trace k before) m.move.step.event) number m.goes.allowed,
      subst (λ (k : ℕ). IsOutcome setting (core_trace k before) m.move.step.event m.move.step.outcome) number m.goes.answers,
      x,
    )

pub core_is_trace : (setting : Setting) (seen : List Seen) (i : ℕ) → IsHubTrace setting seen → IsTrace setting (core_trace i seen)
unfolding core_of
core_is_trace setting [] i x = tt
core_is_trace setting (s ∷ before) i x =
    let ih = core_is_trace setting before i x.1 in
    elim (view_of setting s before x) [
      | inl e ↦ subst (IsTrace setting) (sym (core_opening i s before e)) ih
      | inr m ↦ elim (cases_Bool (i == m.move.number)) [
        | inl same ↦ subst (IsTrace setting) (sym (core_own setting i s before m same)) (own_step setting i s before m same ih)
        | inr other ↦ subst (IsTrace setting) (sym (core_other setting i s before m other)) ih
      ]
    ]
