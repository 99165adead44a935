-- The deadline of what is kept: the tables', and the one at which ticks tell that a time has run out.
use Rattle.std.proofs.Common.{◌≡◌, ℕ, Bool, true, false, List, drop, length, Option, Some, None, refl, sym, ap, ◌∙◌, inl, inr, length-drop}
use Rattle.std.specs.Prelude.{not, ◌&&◌, ◌||◌, ◌==◌, nat_lt, nat_le, if◌then◌else◌, is_some, is_none, unwrap_or, IsTrue}
use Rattle.std.specs.Option.{option_or}
use Rattle.std.proofs.lemmas.Bool.{cases_Bool, cond-true, cond-false, cond_both, and_parts, and_from, leb-true, ltb-true, true≢false}
use Rattle.std.proofs.lemmas.Option.{none-some}
use Rattle.model_h1.specs.Setting.{Setting}
use Rattle.model_h1.specs.Limits.{MAX_MOMENT}
use Rattle.model_h1.specs.End as ends
use Rattle.model_h1.specs.End.{End}
use Rattle.model_h1.specs.Event as on
use Rattle.model_h1.specs.Sums.{Step, taken, first_tick, completed_at}
use Rattle.model_h1.specs.Sums as sums
use Rattle.model_h1.specs.Past.{ParsedStep, steps, passed, held}
use Rattle.model_h1.specs.Closing.{closing}
use Rattle.model_h1.specs.Allowed.{is_over}
use Rattle.model_h1.specs.OutcomeTable.{tick_by}
use Rattle.model_h1.specs.OutcomeTable as table
use Rattle.model_h1.specs.Trace.{IsPastOf, IsTrace}
use Rattle.model_h1.specs.Deadline.{tells_time_out, is_due, times_out_by, still_comes, deadline, IsDeadline}
use Rattle.model_h1.proofs.PastLemmas.{Legal, legal_of}
use Rattle.model_h1.proofs.DeadlineLemmas.{due_by, still_due, still_moment}
use Rattle.model_state.specs.Kept.{Exchange, Kept, now}
use Rattle.model_state.specs.Local.{closing_by, is_moment, allowed_by}
use Rattle.model_state.specs.Clock.{is_abandoned, is_slow, is_idle, expiring, ticking}
use Rattle.model_state.specs.Kept.{Change}
use Rattle.model_state.specs.Deadline.{waits_for_first, waits_for_next, times_of, times_out_at, deadline_by}
use Rattle.model_state.specs.KeptOf.{kept_of}
use Rattle.model_state.specs.StandsFor.{StandsFor}
use Rattle.model_state.proofs.Kernel.{closing_of}
use Rattle.model_state.proofs.TickChanges.{unparsed_same, done_same}

-- ---- the tables'

-- what decides is the same
times_are : (setting : Setting) (past : List ParsedStep) → Legal setting past → times_of (kept_of setting past) ≡ table.times_of setting past
times_are setting past l =
    let first = unparsed_same setting past l in
    let done = done_same setting past l in
    let left : length (drop (passed past) (taken (steps past))) ≡ held past = length-drop (passed past) (taken (steps past)) in
    λ i. record (table.times_of setting past) { waits_for_first = first i; waits_for_next = done i && (left i == 0) }

-- so is the deadline
deadline_same : (setting : Setting) (past : List ParsedStep) → Legal setting past → deadline_by setting (kept_of setting past) ≡ deadline setting past
unfolding deadline deadline_by
deadline_same setting past l =
    let first = first_tick (steps past) in
    let closes = closing_of setting past l in
    ap (λ c. if is_over (steps past) then None else still_comes (sums.now (steps past)) (times_out_at setting (kept_of setting past) c)) closes
    ∙ ap (λ o. if is_over (steps past) then None else still_comes (sums.now (steps past)) o) (ap (λ t. times_out_by setting t (closing setting past) (first_tick (steps past))) (times_are setting past l))

-- of the past of a trace
pub deadline_of_past : (setting : Setting) (past : List ParsedStep) (trace : List Step) → IsTrace setting trace → IsPastOf setting trace past
    → deadline_by setting (kept_of setting past) ≡ deadline setting past
deadline_of_past setting past trace x y = deadline_same setting past (legal_of setting trace past x y)

-- and of what stands for one
pub deadline_of_trace : (setting : Setting) (k : Kept) (trace : List Step) → StandsFor setting k trace → IsDeadline setting trace (deadline_by setting k)
deadline_of_trace setting k trace x =
    (x.past, x.of_trace, ap (deadline_by setting) x.parts ∙ deadline_of_past setting x.past trace x.traced x.of_trace)

-- ---- a tick

-- who waits for the first request doesn't wait for the next one
first_or_next : (k : Kept) (o : Option Exchange) → k.exchange ≡ o → waits_for_first k ≡ true → waits_for_next k ≡ false
first_or_next k None e w = rw e refl
first_or_next k (Some x) e w = absurd (true≢false (sym w ∙ ap (λ o. is_none o && not k.is_coming) e))

-- what a tick answers is by the times
outcome_by : (setting : Setting) (k : Kept) (closes : Option End) (first ms : ℕ)
    → (expiring setting k closes first ms).outcome ≡ tick_by setting (times_of k) closes first ms
outcome_by setting k (Some end) first ms = by_one (is_abandoned setting k first ms) _ _
  where
    by_one : (b : Bool) (m n : Kept)
        → Change.outcome (if b then record { outcome = on.abandoned; kept = m } else record { outcome = on.done; kept = n }) ≡ (if b then on.abandoned else on.done)
    by_one true m n = refl
    by_one false m n = refl
outcome_by setting k None first ms = by_two (is_slow setting k first ms) (is_idle setting k first ms) _ _ _
  where
    by_two : (slow idle : Bool) (l m n : Kept)
        → Change.outcome (if slow then record { outcome = on.expired ends.slow_request; kept = l }
        else (if idle then record { outcome = on.expired ends.keep_alive_expired; kept = m } else record { outcome = on.done; kept = n }))
        ≡ (if slow then on.expired ends.slow_request else (if idle then on.expired ends.keep_alive_expired else on.done))
    by_two true idle l m n = refl
    by_two false true l m n = refl
    by_two false false l m n = refl

-- so it tells that a time has run out where the one that counts has
tick_due : (setting : Setting) (k : Kept) (closes : Option End) (ms : ℕ)
    → tells_time_out (ticking setting k closes ms).outcome ≡ is_due (times_out_at setting k closes) ms
tick_due setting k closes ms =
    ap tells_time_out (outcome_by setting k closes (unwrap_or k.clock.first ms) ms)
    ∙ due_by setting (times_of k) closes k.clock.first ms (first_or_next k k.exchange refl)

-- a tick that is allowed: the connection isn't over, and the moment may come
tick_allowed : (setting : Setting) (k : Kept) (ms : ℕ) → allowed_by setting k (on.tick ms) ≡ (not k.is_over && is_moment k ms)
unfolding allowed_by
tick_allowed setting k ms =
    ap (λ b. not k.is_over && b) (cond_both (is_some (closing_by setting k)) _ _ (λ b. b ≡ is_moment k ms) (λ _. refl) (λ _. refl))

-- the deadline of one that isn't over
deadline_is : (setting : Setting) (k : Kept) → k.is_over ≡ false
    → deadline_by setting k ≡ still_comes (now k) (times_out_at setting k (closing_by setting k))
unfolding deadline_by
deadline_is setting k e = cond-false k.is_over _ _ e

-- and of one that is
no_deadline : (setting : Setting) (k : Kept) → k.is_over ≡ true → deadline_by setting k ≡ None
unfolding deadline_by
no_deadline setting k e = cond-true k.is_over _ _ e

-- an allowed tick tells that a time has run out exactly where the deadline has come
pub tick_told : (setting : Setting) (k : Kept) (ms : ℕ) → IsTrue (allowed_by setting k (on.tick ms))
    → tells_time_out (ticking setting k (closing_by setting k) ms).outcome ≡ is_due (deadline_by setting k) ms
tick_told setting k ms allowed =
    let parts = and_parts (not k.is_over) (is_moment k ms) (sym (tick_allowed setting k ms) ∙ allowed) in
    let moment = and_parts (nat_le (now k) ms) (nat_lt ms MAX_MOMENT) parts.1 in
    let out = times_out_at setting k (closing_by setting k) in
    tick_due setting k (closing_by setting k) ms
    ∙ sym (still_due (now k) out ms (leb-true (now k) ms moment.0) (ltb-true ms MAX_MOMENT moment.1))
    ∙ sym (ap (λ o. is_due o ms) (deadline_is setting k (not_true k.is_over parts.0)))
  where
    not_true : (b : Bool) → not b ≡ true → b ≡ false
    not_true true e = sym e
    not_true false e = refl

-- and it is itself the moment of an allowed tick
pub tick_at_deadline : (setting : Setting) (k : Kept) (ms : ℕ) → deadline_by setting k ≡ Some ms → IsTrue (allowed_by setting k (on.tick ms))
tick_at_deadline setting k ms e = elim (cases_Bool k.is_over) [
  | inl over ↦ absurd (none-some ms (sym (no_deadline setting k over) ∙ e))
  | inr runs ↦
      tick_allowed setting k ms
      ∙ and_from (not k.is_over) (is_moment k ms) (ap not runs)
      (still_moment (now k) (times_out_at setting k (closing_by setting k)) ms (sym (deadline_is setting k runs) ∙ e))
]
