-- All exchanges of a seed, one after another.
use Rattle.std.proofs.Common.{◌≡◌, ℕ, ◌+◌, ◌*◌, ◌/◌, ◌%◌, ◌^◌, ◌<◌, ◌≤◌, false, List, [], ◌∷◌, ◌++◌, length, map, reverse, Option, Some, None, refl, sym, ap, ◌∙◌, subst, arith, append_assoc, mod-lt}
use Rattle.std.specs.Prelude.{zero, suc, sum_by}
use Rattle.std.proofs.lemmas.List.{reverse-append, reverse-reverse}
use Rattle.model_h1.specs.Event.{Event}
use Rattle.model_h1.specs.Event as on
use Rattle.model_h1.specs.Sums.{Step, taken, written}
use Rattle.model_h1.specs.Past.{ParsedStep, head_count, step_bytes}
use Rattle.model_h1.specs.Text.{buffered}
use Rattle.model_h1.specs.Closing.{closing}
use Rattle.model_h1.specs.Allowed.{is_over}
use Rattle.model_h1.specs.Trace.{IsPastOf}
use Rattle.model_h1.specs.Laws.Runs.{IsWhole}
use Rattle.model_h1.proofs.EventRuns.{one_whole}
use Rattle.model_state.specs.Kept.{Exchange}
use Rattle.model_state.specs.Local.{closing_by}
use Rattle.model_state.specs.StandsFor.{StandsFor}
use Rattle.model_state.proofs.Stands.{closing_of_trace}
use Rattle.h1_generated.specs.Generated.{setting, next_state, drawn, kind_of, len_of, exchange, exchanges_from, generated}
use Rattle.h1_generated.proofs.States.{step, IsDone, first, another, idle, ticked}
use Rattle.h1_generated.proofs.Added.{Adds}
use Rattle.h1_generated.proofs.Exchanges.{served}

-- These events lead from a trace to one behind which nothing is under way, and hand out so many heads.
pub record Reached (events : List Event) (count : ℕ) (before : List Step) : Type 0 where
  pub trace : List Step
  pub last : Option Exchange
  pub completed : Option ℕ
  pub done : IsDone last
  pub stands : StandsFor setting (idle last completed) trace
  pub events_are : map (λ s. s.event) trace ≡ reverse events ++ map (λ s. s.event) before
  pub heads_are : head_count trace ≡ head_count before + count
  pub adds : Adds trace before count

-- no exchange adds nothing
nothing_added : (before : List Step) → Adds before before 0
nothing_added before = record { taken_adds = omega arith; body_adds = omega arith; written_adds = omega arith }

-- one more adds its own
more_added : (trace middle before : List Step) (count : ℕ) → Adds trace middle count → Adds middle before 1 → Adds trace before (suc count)
more_added trace middle before count all one =
    record {
      taken_adds = omega (arith, all.taken_adds, one.taken_adds);
      body_adds = omega (arith, all.body_adds, one.body_adds);
      written_adds = omega (arith, all.written_adds, one.written_adds);
    }

pub reached : (x k count : ℕ) → k + count ≤ 2 ^ 64 → (last : Option Exchange) (c : Option ℕ) (before : List Step) → IsDone last
    → StandsFor setting (idle last c) before → Reached (exchanges_from x k count) count before
unfolding exchanges_from
reached x k zero fits last c before done stands =
    record { trace = before; last = last; completed = c; done = done; stands = stands; events_are = refl; heads_are = omega arith; adds = nothing_added before }
reached x k (suc count) fits last c before done stands =
    let y = next_state x in
    let n = len_of (drawn y) in
    let less : drawn y / 4 % 1000 < 1000 = mod-lt (drawn y / 4) (omega arith) in
    let events = exchange (kind_of (drawn y)) k n in
    let more = exchanges_from y (k + 1) count in
    let one = served (kind_of (drawn y)) k n (omega (arith, fits)) (omega arith) (omega (arith, less)) last c before done stands in
    let others = reached y (k + 1) count (omega (arith, fits)) one.last (Some 0) one.trace one.done one.stands in
    record {
      trace = others.trace;
      last = others.last;
      completed = others.completed;
      done = others.done;
      stands = others.stands;
      events_are =
          others.events_are ∙ ap (λ (es : List Event). reverse more ++ es) one.events_are
          ∙ sym (append_assoc (reverse more) (reverse events) (map (λ s. s.event) before))
          ∙ ap (λ (es : List Event). es ++ map (λ s. s.event) before) (sym (reverse-append events more));
      heads_are = omega (arith, others.heads_are, one.heads_are);
      adds = more_added others.trace one.trace before count others.adds one.adds;
    }

-- all events of a seed
abbrev pub all_reached : (seed count : ℕ) → count < 2 ^ 64 → Reached (exchanges_from seed 1 count) count (step (on.tick 0) on.done ∷ [])
all_reached seed count fits = reached seed 1 count (omega (arith, fits)) None None (step (on.tick 0) on.done ∷ []) first ticked

-- are a whole run
pub is_whole : (seed count : ℕ) (fits : count < 2 ^ 64) → IsWhole setting (generated seed count) (all_reached seed count fits).trace
is_whole seed count fits =
    let r = all_reached seed count fits in
    let events = exchanges_from seed 1 count in
    record {
      traced = r.stands.traced;
      events_are = ap reverse r.events_are ∙ reverse-append (reverse events) (on.tick 0 ∷ []) ∙ ap (λ (es : List Event). on.tick 0 ∷ es) (reverse-reverse events);
    }

pub allowed : (seed count : ℕ) → count < 2 ^ 64 → (trace : List Step) × IsWhole setting (generated seed count) trace
allowed seed count fits = ((all_reached seed count fits).trace, is_whole seed count fits)

-- ---- what is left of the run

-- nothing closes the connection
idle_open : (last : Option Exchange) (c : Option ℕ) → IsDone last → closing_by setting (idle last c) ≡ None
unfolding closing_by
idle_open None c first = refl
idle_open (Some x) c (another is_head has_body was_pulled is_done) = refl

module _ (seed count : ℕ) (trace : List Step) (fits : count < 2 ^ 64) (run : IsWhole setting (generated seed count) trace) where
  same : (all_reached seed count fits).trace ≡ trace
  same = one_whole setting (generated seed count) (all_reached seed count fits).trace trace (is_whole seed count fits) run

  abbrev end : Reached (exchanges_from seed 1 count) count (step (on.tick 0) on.done ∷ [])
  end = all_reached seed count fits

  pub all_heads : head_count trace ≡ count
  all_heads = sym (ap head_count same) ∙ end.heads_are ∙ omega arith

  pub all_written : buffered setting trace ≡ []
  all_written =
      sym (ap (buffered setting) same) ∙ sym (ap (buffered setting) end.stands.of_trace.same) ∙ sym (ap (λ k. k.buffered) end.stands.parts)

  pub not_over : is_over trace ≡ false
  not_over = sym (ap is_over same) ∙ sym (ap is_over end.stands.of_trace.same) ∙ sym (ap (λ k. k.is_over) end.stands.parts)

  pub stays_open : (past : List ParsedStep) → IsPastOf setting trace past → closing setting past ≡ None
  stays_open past is =
      let here : StandsFor setting (idle end.last end.completed) trace = subst (λ t. StandsFor setting (idle end.last end.completed) t) same end.stands in
      sym (closing_of_trace setting (idle end.last end.completed) trace past here is) ∙ idle_open end.last end.completed end.done

  pub few_taken : length (taken trace) ≤ 2000 * count
  unfolding taken
  few_taken = subst (λ t. length (taken t) ≤ 2000 * count) same (omega (arith, end.adds.taken_adds))

  pub few_body : sum_by (λ s. step_bytes s.outcome) trace ≤ 2000 * count
  few_body = subst (λ t. sum_by (λ s. step_bytes s.outcome) t ≤ 2000 * count) same (omega (arith, end.adds.body_adds))

  pub few_written : length (written trace) ≤ 2000 * count
  unfolding written
  few_written = subst (λ t. length (written t) ≤ 2000 * count) same (omega (arith, end.adds.written_adds))
