-- What a trace says of the next event: allowed or not; and the events say the whole trace.
use Rattle.std.proofs.Common.{◌≡◌, List, [], ◌∷◌, ◌⊎◌, length, drop, map, refl, sym, ap, ◌∙◌, subst₂, inl, inr, arith}
use Rattle.std.proofs.lemmas.Bool.{cases_Bool, true≢false}
use Rattle.model_h1.specs.Setting.{Setting}
use Rattle.model_h1.specs.Event.{Event}
use Rattle.model_h1.specs.Sums.{Step}
use Rattle.model_h1.specs.Allowed.{is_allowed}
use Rattle.model_h1.specs.Trace.{IsAllowed, IsMisplaced, IsOutcome, IsTrace}
use Rattle.model_h1.proofs.PastExistence.{past_exists}
use Rattle.model_h1.proofs.PastLemmas.{outcome_unique, allowed_behind}

-- by the past that each trace has
pub allowed_or_not : (setting : Setting) (trace : List Step) (event : Event) → IsAllowed setting trace event ⊎ IsMisplaced setting trace event
allowed_or_not setting trace event =
    let past = past_exists setting trace in
    elim (cases_Bool (is_allowed setting past.0 event)) [
      | inl allowed ↦ inl (past.0, past.1, allowed)
      | inr not_allowed ↦ inr (past.0, past.1, not_allowed)
    ]

-- and as it has no other
pub not_allowed_and_misplaced : (setting : Setting) (trace : List Step) (event : Event) → IsAllowed setting trace event
    → ¬ (IsMisplaced setting trace event)
not_allowed_and_misplaced setting trace event x y = true≢false (sym (allowed_behind setting trace event y.0 x y.1) ∙ y.2)

-- the first event of a list
first_event : (e f : Event) (es fs : List Event) → e ∷ es ≡ f ∷ fs → e ≡ f
first_event e f es fs same = cc

-- the events of a trace
abbrev events : List Step → List Event
events trace = map (λ s. s.event) trace

-- two traces of the same events are one
pub same_events : (setting : Setting) (a b : List Step) → IsTrace setting a → IsTrace setting b → events a ≡ events b → a ≡ b
same_events setting [] [] x y e = refl
same_events setting [] (t ∷ after) x y e = absurd (omega (arith, ap length e))
same_events setting (s ∷ before) [] x y e = absurd (omega (arith, ap length e))
same_events setting (s ∷ before) (t ∷ after) x y e =
    let event = first_event s.event t.event (events before) (events after) e in
    let others = same_events setting before after x.2 y.2 (ap (drop 1) e) in
    let here = subst₂ (λ (trace : List Step) f. IsOutcome setting trace f s.outcome) others event x.1 in
    let outcome = outcome_unique setting after t.event s.outcome t.outcome here y.1 in
    λ i. record { event = event i; outcome = outcome i } ∷ others i
