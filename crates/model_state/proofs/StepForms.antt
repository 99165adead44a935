-- The forms in which the case of an event is proved: its step as a record, the last request where there is one, and what
-- an allowed event says while the connection is open.
use Rattle.std.proofs.Common.{◌≡◌, true, false, List, [], ◌∷◌, Option, Some, None, refl, sym, ap, ◌∙◌, subst, subst₂}
use Rattle.std.specs.Prelude.{is_some, is_none, not, ◌&&◌, ◌||◌}
use Rattle.std.specs.List.{list_any}
use Rattle.std.specs.Option.{option_or}
use Rattle.std.proofs.lemmas.Bool.{and_parts, or_parts, not-true, false≢true}
use Rattle.model_h1.specs.Request.{Head}
use Rattle.model_h1.specs.Setting.{Setting}
use Rattle.model_h1.specs.Parse.{Message}
use Rattle.model_h1.specs.Event.{Event, Outcome}
use Rattle.model_h1.specs.Event as on
use Rattle.model_h1.specs.Sums.{Step, request, since_head, answered, is_body_end, completes, came_since_head, is_complete, is_open, is_upgraded}
use Rattle.model_h1.specs.Past.{ParsedStep, steps}
use Rattle.model_h1.specs.Closing.{told, body_end_of, closing}
use Rattle.model_h1.specs.Allowed.{waits_for_answer}
use Rattle.model_h1.specs.OutcomeTable.{outcome_of}
use Rattle.model_h1.proofs.PastLemmas.{Legal}
use Rattle.model_state.specs.Kept.{Exchange, Kept}
use Rattle.model_state.specs.KeptOf.{exchange_with, exchange_of, kept_of}
use Rattle.model_state.proofs.Changes.{Changes}
use Rattle.model_state.proofs.Current.{Current}

-- ---- a step as a record

-- a step of an event and its outcome
abbrev pub made : Event → Outcome → List Message → ParsedStep
made e o parse = record { step = record { event = e; outcome = o }; parse = parse }

-- the case of an event is that of its step with the outcome that the table says
pub at_step : (setting : Setting) (before : List ParsedStep) (x : ParsedStep) (e : Event) (o : Outcome) → Legal setting (x ∷ before)
    → x.step.event ≡ e → outcome_of setting before e ≡ o
    → ((parse : List Message) → Legal setting (made e o parse ∷ before) → Changes setting before (made e o parse)) → Changes setting before x
at_step setting before x e o l event outcome f =
    let is : x.step.outcome ≡ o = l.2 ∙ ap (outcome_of setting before) event ∙ outcome in
    subst₂ (λ e o. Legal setting (made e o x.parse ∷ before) → Changes setting before (made e o x.parse)) (sym event) (sym is) (f x.parse) l

-- and where the table is split, that of its step with any outcome
pub at_event : (setting : Setting) (before : List ParsedStep) (x : ParsedStep) (e : Event) → Legal setting (x ∷ before) → x.step.event ≡ e
    → ((o : Outcome) (parse : List Message) → Legal setting (made e o parse ∷ before) → Changes setting before (made e o parse)) → Changes setting before x
at_event setting before x e l event f =
    subst (λ v. Legal setting (made v x.step.outcome x.parse ∷ before) → Changes setting before (made v x.step.outcome x.parse)) (sym event)
    (f x.step.outcome x.parse) l

-- ---- the last request

-- a state with another last request
abbrev pub with_exchange : Kept → Option Exchange → Kept
with_exchange k exchange = record k { exchange = exchange }

-- where there is one
pub kept_current : (setting : Setting) (past : List ParsedStep) (m : Message) (h : Head) → Current setting past m h
    → kept_of setting past ≡ with_exchange (kept_of setting past) (Some (exchange_with setting past m h))
kept_current setting past m h c = λ i. with_exchange (kept_of setting past) (exchange_of setting past (c.current_is i) (c.request_is i))

-- ---- while the connection is open

-- two options of which neither is some
pub both_none : {A : Type 0} (a b : Option A) → option_or a b ≡ None → (a ≡ None) × (b ≡ None)
both_none None b e = (refl, e)
both_none (Some a) b e = absurd (false≢true (sym (ap is_some e)))

-- then no end was told
pub untold : (setting : Setting) (past : List ParsedStep) → closing setting past ≡ None
    → (told (steps past) ≡ None) × (body_end_of (steps past) ≡ None)
unfolding closing
untold setting past e =
    let parts = both_none _ _ e in
    (parts.0, (both_none _ _ parts.1).0)

-- a request that waits for its answer is there, and its answer isn't complete
pub open_request : (trace : List Step) → waits_for_answer trace ≡ true → (is_some (request trace) ≡ true) × (answered trace ≡ None)
open_request trace x =
    let parts = and_parts (is_open trace && is_none (answered trace)) (not (is_upgraded trace)) x in
    let both = and_parts (is_open trace) (is_none (answered trace)) parts.0 in
    ((and_parts (is_some (request trace)) (is_upgraded trace || not (is_complete trace)) both.0).0, none_is (answered trace) both.1)
  where
    none_is : {A : Type 0} (o : Option A) → is_none o ≡ true → o ≡ None
    none_is None e = refl
    none_is (Some a) e = absurd (false≢true e)

-- and nothing of its answer is complete
pub open_incomplete : (trace : List Step) → waits_for_answer trace ≡ true → is_complete trace ≡ false
open_incomplete trace x =
    let parts = and_parts (is_open trace && is_none (answered trace)) (not (is_upgraded trace)) x in
    let both = and_parts (is_open trace) (is_none (answered trace)) parts.0 in
    let plain = not-true (is_upgraded trace) parts.1 in
    let there = (and_parts (is_some (request trace)) (is_upgraded trace || not (is_complete trace)) both.0).1 in
    not-true (is_complete trace) (sym (ap (λ b. b || not (is_complete trace)) plain) ∙ there)

-- no head was handed out, so that none waits
pub no_request : (trace : List Step) → request trace ≡ None → is_some (request trace) ≡ true → ⊥
no_request trace none some = false≢true (sym (ap is_some none) ∙ some)

-- an answer that isn't complete has no end
any_ends : (trace : List Step) → list_any (λ s. completes s.event) trace ≡ false → list_any (λ s. is_body_end s.event) trace ≡ false
any_ends [] e = refl
any_ends (s ∷ before) e =
    let parts = or_parts (completes s.event) (list_any (λ t. completes t.event) before) e in
    λ i. event_ends s.event parts.0 i || any_ends before parts.1 i
  where
    event_ends : (e : Event) → completes e ≡ false → is_body_end e ≡ false
    event_ends on.body_end none = none
    event_ends _ none = refl

-- nor has its body ended
pub unended : (trace : List Step) → is_complete trace ≡ false → came_since_head is_body_end trace ≡ false
unended trace e = any_ends (since_head trace) e
