-- A tick that is allowed tells that a time has run out exactly where the deadline has come.
use Rattle.std.proofs.Common.{◌≡◌, ℕ, ◌+◌, ◌-◌, ◌≤◌, ◌<◌, Bool, true, false, List, [], ◌∷◌, length, Option, Some, None, refl, sym, ap, ◌∙◌, inl, inr, arith}
use Rattle.std.specs.Prelude.{max, not, ◌&&◌, ◌||◌, ◌==◌, nat_lt, nat_le, if◌then◌else◌, is_some, unwrap_or, slice_get, IsTrue}
use Rattle.std.specs.Option.{option_or}
use Rattle.std.proofs.lemmas.Bool.{cases_Bool, cond-true, cond-false, cond_both, and_parts, and_from, and_right, ne_eqb, eqb-true, eqb-false, leb-true, leb-false, ltb-true, ltb-false, le-leb, lt-leb, true≢false}
use Rattle.std.proofs.lemmas.Option.{none-some, cond_some}
use Rattle.model_h1.specs.Setting.{Setting, KeepAlive, timeout, by_system, disabled}
use Rattle.model_h1.specs.Limits.{MAX_MOMENT}
use Rattle.model_h1.specs.Parse.{Message}
use Rattle.model_h1.specs.End.{End}
use Rattle.model_h1.specs.End as ends
use Rattle.model_h1.specs.Event.{Outcome}
use Rattle.model_h1.specs.Event as on
use Rattle.model_h1.specs.Sums.{Step, first_tick, completed_at, is_complete, is_open, now}
use Rattle.model_h1.specs.Past.{ParsedStep, steps, parse_of, current, head_count, held}
use Rattle.model_h1.specs.Text.{buffered}
use Rattle.model_h1.specs.Closing.{closing, closing_since}
use Rattle.model_h1.specs.Allowed.{is_over, is_moment, is_allowed}
use Rattle.model_h1.specs.OutcomeTable.{Times, times_of, tick_by, abandons, counted_from, has_run_out, is_kept_too_long, has_ended_body, tick_outcome, outcome_of, waits_for_next}
use Rattle.model_h1.specs.Trace.{IsAllowed, IsOutcome}
use Rattle.model_h1.specs.Deadline.{times_out_by, tells_time_out, is_due, runs_out_at, timeout_at, kept_until, times_out_at, still_comes, deadline, IsDeadline}
use Rattle.model_h1.proofs.PastLemmas.{past_of_unique, allowed_behind, outcome_unique}
use Rattle.model_h1.proofs.PastExistence.{past_exists}

-- ---- one time

-- a time has run out at a moment, counted from a tick that may not have come yet
due_from : (wait : ℕ) (tick first : Option ℕ) (ms : ℕ)
    → nat_le (counted_from (unwrap_or first ms) tick + wait) ms ≡ is_due (runs_out_at wait (option_or tick first)) ms
due_from wait (Some t) first ms = refl
due_from wait None (Some f) ms = refl
due_from wait None None ms = elim (cases_Bool (wait == 0)) [
  | inl zero ↦
      let e : wait ≡ 0 = eqb-true wait 0 zero in
      le-leb (ms + wait) ms (omega (arith, e)) ∙ sym (ap (λ b. is_due (if b then Some 0 else None) ms) zero ∙ le-leb 0 ms (omega arith))
  | inr some ↦
      let e : wait ≡ 0 → ⊥ = eqb-false wait 0 some in
      lt-leb (ms + wait) ms (omega (arith, e)) ∙ sym (ap (λ b. is_due (if b then Some 0 else None) ms) some)
]

-- a timeout has
pub timeout_due : (wait : ℕ) (tick first : Option ℕ) (ms : ℕ)
    → has_run_out wait (counted_from (unwrap_or first ms) tick) ms ≡ is_due (timeout_at wait (option_or tick first)) ms
timeout_due wait tick first ms =
    let since = option_or tick first in
    let late = nat_le (counted_from (unwrap_or first ms) tick + wait) ms in
    elim (cases_Bool (wait == 0)) [
      | inl off ↦ ap (λ b. not b && late) off ∙ sym (ap (λ b. is_due (if b then None else runs_out_at wait since) ms) off)
      | inr on ↦
          ap (λ b. not b && late) on ∙ due_from wait tick first ms ∙ sym (ap (λ b. is_due (if b then None else runs_out_at wait since) ms) on)
    ]

-- the time for which a connection is kept has
pub kept_due : (keep_alive : KeepAlive) (tick first : Option ℕ) (ms : ℕ)
    → is_kept_too_long keep_alive (counted_from (unwrap_or first ms) tick) ms ≡ is_due (kept_until keep_alive (option_or tick first)) ms
kept_due (timeout wait) tick first ms = due_from wait tick first ms
kept_due by_system tick first ms = refl
kept_due disabled tick first ms = refl

-- one that counts only where something holds
pub due_where : (holds : Bool) (o : Option ℕ) (ms : ℕ) → is_due (if holds then o else None) ms ≡ (holds && is_due o ms)
due_where true o ms = refl
due_where false o ms = refl

-- or where it doesn't
pub due_unless : (holds : Bool) (o : Option ℕ) (ms : ℕ) → is_due (if holds then None else o) ms ≡ (not holds && is_due o ms)
due_unless true o ms = refl
due_unless false o ms = refl

-- at a moment at which a tick may come, what has passed is as what is now, and what is too late never is
pub still_due : (now : ℕ) (o : Option ℕ) (ms : ℕ) → now ≤ ms → ms < MAX_MOMENT → is_due (still_comes now o) ms ≡ is_due o ms
still_due now None ms x y = refl
still_due now (Some d) ms x y = elim (cases_Bool (nat_lt (max now d) MAX_MOMENT)) [
  | inl comes ↦
      ap (λ b. is_due (if b then Some (max now d) else None) ms) comes
      ∙ elim (cases_Bool (nat_le d ms)) [
        | inl due ↦ (let e : d ≤ ms = leb-true d ms due in le-leb (max now d) ms (omega (arith, x, e))) ∙ sym due
        | inr early ↦ (let e : ms < d = leb-false d ms early in lt-leb (max now d) ms (omega (arith, e))) ∙ sym early
      ]
  | inr late ↦
      let e : MAX_MOMENT ≤ max now d = ltb-false (max now d) MAX_MOMENT late in
      ap (λ b. is_due (if b then Some (max now d) else None) ms) late ∙ sym (lt-leb d ms (omega (arith, x, y, e)))
]

-- a deadline isn't before now, and a tick may come at it
pub still_moment : (now : ℕ) (o : Option ℕ) (ms : ℕ) → still_comes now o ≡ Some ms → (nat_le now ms && nat_lt ms MAX_MOMENT) ≡ true
still_moment now None ms e = absurd (none-some ms e)
still_moment now (Some d) ms e =
    let there = cond_some (nat_lt (max now d) MAX_MOMENT) (max now d) ms e in
    let same : max now d ≡ ms = there.1 in
    and_from (nat_le now ms) (nat_lt ms MAX_MOMENT) (le-leb now ms (omega (arith, same))) (ap (λ n. nat_lt n MAX_MOMENT) (sym same) ∙ there.0)

-- ---- a tick

-- without a message none is the current one
none_current : (past : List ParsedStep) (ms : List Message) → parse_of past ≡ ms → (length ms == 0) ≡ true → has_ended_body (current past) ≡ false
none_current past [] parse e =
    ap has_ended_body (ap (λ ms. if head_count (steps past) == 0 then None else slice_get ms (head_count (steps past) - 1)) parse
    ∙ cond_both (head_count (steps past) == 0) None None (λ o. o ≡ None) (λ _. refl) (λ _. refl))
none_current past (m ∷ ms) parse e = absurd (true≢false (sym e ∙ ne_eqb (length (m ∷ ms)) 0 (omega arith)))

-- and so no next one is waited for
none_waits : (past : List ParsedStep) → (length (parse_of past) == 0) ≡ true → waits_for_next past ≡ false
none_waits past e =
    ap (λ b. is_complete (steps past) && not (is_open (steps past)) && b && (held past == 0)) (none_current past (parse_of past) refl e)
    ∙ ap (λ b. b && (held past == 0)) (and_right (is_complete (steps past) && not (is_open (steps past))) false refl)

-- a tick tells that a time has run out exactly where the one that counts has
pub due_by : (setting : Setting) (t : Times) (closes : Option End) (first : Option ℕ) (ms : ℕ) → (t.waits_for_first ≡ true → t.waits_for_next ≡ false)
    → tells_time_out (tick_by setting t closes (unwrap_or first ms) ms) ≡ is_due (times_out_by setting t closes first) ms
due_by setting t (Some end) first ms one =
    told_where (abandons setting t (unwrap_or first ms) ms)
    ∙ ap (λ b. not t.is_written && b) (timeout_due setting.disconnect_timeout t.closing_since first ms)
    ∙ sym (due_unless t.is_written (timeout_at setting.disconnect_timeout (option_or t.closing_since first)) ms)
  where
    told_where : (b : Bool) → tells_time_out (if b then on.abandoned else on.done) ≡ b
    told_where true = refl
    told_where false = refl
due_by setting t None first ms one =
    let late = has_run_out setting.request_timeout (unwrap_or first ms) ms in
    let kept = is_kept_too_long setting.keep_alive (counted_from (unwrap_or first ms) t.completed) ms in
    let request = timeout_at setting.request_timeout first in
    let next = kept_until setting.keep_alive (option_or t.completed first) in
    told_where (t.waits_for_first && late) (t.waits_for_next && kept)
    ∙ elim (cases_Bool t.waits_for_first) [
      | inl empty ↦
          (λ i. (empty i && late) || (one empty i && kept)) ∙ or_false late ∙ timeout_due setting.request_timeout None first ms
          ∙ sym (ap (λ b. is_due (if b then request else (if t.waits_for_next then next else None)) ms) empty)
      | inr some ↦
          ap (λ b. (b && late) || (t.waits_for_next && kept)) some ∙ ap (λ b. t.waits_for_next && b) (kept_due setting.keep_alive t.completed first ms)
          ∙ sym (due_where t.waits_for_next next ms) ∙ sym (ap (λ b. is_due (if b then request else (if t.waits_for_next then next else None)) ms) some)
    ]
  where
    told_where : (slow idle : Bool)
        → tells_time_out (if slow then on.expired ends.slow_request else (if idle then on.expired ends.keep_alive_expired else on.done)) ≡ (slow || idle)
    told_where true idle = refl
    told_where false true = refl
    told_where false false = refl

    or_false : (b : Bool) → (b || false) ≡ b
    or_false true = refl
    or_false false = refl

-- of a past
tick_due : (setting : Setting) (past : List ParsedStep) (closes : Option End) (first : Option ℕ) (ms : ℕ)
    → tells_time_out (tick_outcome setting past closes (unwrap_or first ms) ms) ≡ is_due (times_out_at setting past closes first) ms
tick_due setting past closes first ms = due_by setting (times_of setting past) closes first ms (none_waits past)

-- ---- what is allowed

-- a tick that is allowed: the connection isn't over, and the moment may come
tick_allowed : (setting : Setting) (past : List ParsedStep) (ms : ℕ) → is_allowed setting past (on.tick ms) ≡ (not (is_over (steps past)) && is_moment (steps past) ms)
unfolding is_allowed
tick_allowed setting past ms =
    ap (λ b. not (is_over (steps past)) && b) (cond_both (is_some (closing setting past)) _ _ (λ b. b ≡ is_moment (steps past) ms) (λ _. refl) (λ _. refl))

-- the deadline of one that isn't over
deadline_is : (setting : Setting) (past : List ParsedStep) → is_over (steps past) ≡ false
    → deadline setting past ≡ still_comes (now (steps past)) (times_out_at setting past (closing setting past) (first_tick (steps past)))
unfolding deadline
deadline_is setting past e = cond-false (is_over (steps past)) _ _ e

-- and of one that is
no_deadline : (setting : Setting) (past : List ParsedStep) → is_over (steps past) ≡ true → deadline setting past ≡ None
unfolding deadline
no_deadline setting past e = cond-true (is_over (steps past)) _ _ e

-- ---- behind a past

-- the outcome of a tick
tick_gives : (setting : Setting) (past : List ParsedStep) (ms : ℕ)
    → outcome_of setting past (on.tick ms) ≡ tick_outcome setting past (closing setting past) (unwrap_or (first_tick (steps past)) ms) ms
unfolding outcome_of
tick_gives setting past ms = refl

-- an allowed tick tells that a time has run out exactly where the deadline has come
pub told_of_past : (setting : Setting) (past : List ParsedStep) (ms : ℕ) → IsTrue (is_allowed setting past (on.tick ms))
    → tells_time_out (outcome_of setting past (on.tick ms)) ≡ is_due (deadline setting past) ms
told_of_past setting past ms allowed =
    let parts = and_parts (not (is_over (steps past))) (is_moment (steps past) ms) (sym (tick_allowed setting past ms) ∙ allowed) in
    let moment = and_parts (nat_le (now (steps past)) ms) (nat_lt ms MAX_MOMENT) parts.1 in
    let out = times_out_at setting past (closing setting past) (first_tick (steps past)) in
    ap tells_time_out (tick_gives setting past ms) ∙ tick_due setting past (closing setting past) (first_tick (steps past)) ms
    ∙ sym (still_due (now (steps past)) out ms (leb-true (now (steps past)) ms moment.0) (ltb-true ms MAX_MOMENT moment.1))
    ∙ sym (ap (λ o. is_due o ms) (deadline_is setting past (not_true (is_over (steps past)) parts.0)))
  where
    not_true : (b : Bool) → not b ≡ true → b ≡ false
    not_true true e = sym e
    not_true false e = refl

-- and it is itself the moment of an allowed tick
pub allowed_of_past : (setting : Setting) (past : List ParsedStep) (ms : ℕ) → deadline setting past ≡ Some ms
    → IsTrue (is_allowed setting past (on.tick ms))
allowed_of_past setting past ms e = elim (cases_Bool (is_over (steps past))) [
  | inl over ↦ absurd (none-some ms (sym (no_deadline setting past over) ∙ e))
  | inr runs ↦
      let out = times_out_at setting past (closing setting past) (first_tick (steps past)) in
      tick_allowed setting past ms
      ∙ and_from (not (is_over (steps past))) (is_moment (steps past) ms) (ap not runs)
      (still_moment (now (steps past)) out ms (sym (deadline_is setting past runs) ∙ e))
]

-- ---- behind a trace

-- there is one, or none
pub deadline_there : (setting : Setting) (trace : List Step) → (ms : Option ℕ) × IsDeadline setting trace ms
deadline_there setting trace =
    let past = past_exists setting trace in
    (deadline setting past.0, (past.0, past.1, refl))

-- and no other
pub deadline_one : (setting : Setting) (trace : List Step) (a b : Option ℕ) → IsDeadline setting trace a → IsDeadline setting trace b → a ≡ b
deadline_one setting trace a b x y = x.2 ∙ ap (deadline setting) (past_of_unique setting trace x.0 y.0 x.1 y.1) ∙ sym y.2

-- an allowed tick tells that a time has run out exactly where it has come
pub told_of_trace : (setting : Setting) (trace : List Step) (d : Option ℕ) (ms : ℕ) (o : Outcome) → IsDeadline setting trace d
    → IsAllowed setting trace (on.tick ms) → IsOutcome setting trace (on.tick ms) o → tells_time_out o ≡ is_due d ms
told_of_trace setting trace d ms o x allowed y =
    let same = outcome_unique setting trace (on.tick ms) o (outcome_of setting x.0 (on.tick ms)) y (x.0, x.1, refl) in
    ap tells_time_out same ∙ told_of_past setting x.0 ms (allowed_behind setting trace (on.tick ms) x.0 allowed x.1)
    ∙ sym (ap (λ e. is_due e ms) x.2)

-- a tick at it is allowed
pub allowed_of_trace : (setting : Setting) (trace : List Step) (ms : ℕ) → IsDeadline setting trace (Some ms) → IsAllowed setting trace (on.tick ms)
allowed_of_trace setting trace ms x = (x.0, x.1, allowed_of_past setting x.0 ms (sym x.2))
