-- What a generated run comes to.
use Rattle.std.specs.Prelude.{◌≡◌, ℕ, ◌+◌, ◌<◌, ◌^◌, min, false, List, length, sum_by, None, codes}
use Rattle.model_h1.specs.Sums as sums
use Rattle.model_h1.specs.Past.{ParsedStep}
use Rattle.model_h1.specs.Text.{buffered}
use Rattle.model_h1.specs.Closing.{closing}
use Rattle.model_h1.specs.Allowed.{is_over}
use Rattle.model_h1.specs.Trace.{IsPastOf}
use Rattle.model_h1.specs.Laws.Runs.{IsWhole}
use Rattle.h1_connection.specs.declared.event.Event.{Event}
use Rattle.h1_connection.specs.declared.event.Event.TheVariants.{Read}
use Rattle.h1_connection.specs.declared.event.Outcome.{Outcome}
use Rattle.h1_connection.specs.declared.event.Outcome.TheVariants.{Took, Head, Bytes, Gave}
use Rattle.h1_connection.specs.declared.trace.Step.{Step}
use Rattle.h1_connection.specs.declared.trace.Trace.{Trace}
use Rattle.h1_generated.specs.Generated.{setting, generated}
use Rattle.h1_generated.specs.Summary.{Counts, counts_of, summary_text}

-- The text sums up the one trace of the events of a seed. The connection is open behind it: it neither closes nor is over.
pub record IsSummary (seed count : ℕ) (text : List ℕ) : Type 0 where
  pub trace : List sums.Step
  pub whole : IsWhole setting (generated seed count) trace
  pub stays : (past : List ParsedStep) → IsPastOf setting trace past → closing setting past ≡ None
  pub goes_on : is_over trace ≡ false
  pub is_text : text ≡ summary_text (counts_of trace (buffered setting trace)) (codes "open")

-- ---- what a step adds

-- bytes taken: those of a read, as far as they were
abbrev pub taken_by : Event → Outcome → ℕ
taken_by (Read bytes) (Took n) = min n (length bytes)
taken_by event outcome = 0

-- heads
abbrev pub heads_by : Outcome → ℕ
heads_by (Head item) = 1
heads_by outcome = 0

-- bytes of bodies
abbrev pub body_by : Outcome → ℕ
body_by (Bytes bytes) = length bytes
body_by outcome = 0

-- bytes that were given to be written
abbrev pub given_by : Outcome → ℕ
given_by (Gave bytes) = length bytes
given_by outcome = 0

abbrev pub all_taken : List Step → ℕ
all_taken steps = sum_by (λ (s : Step). taken_by s.event s.outcome) steps

abbrev pub all_heads : List Step → ℕ
all_heads steps = sum_by (λ (s : Step). heads_by s.outcome) steps

abbrev pub all_body : List Step → ℕ
all_body steps = sum_by (λ (s : Step). body_by s.outcome) steps

abbrev pub all_given : List Step → ℕ
all_given steps = sum_by (λ (s : Step). given_by s.outcome) steps

-- what all steps of a trace come to
abbrev pub totals : Trace → Counts
totals trace =
    record {
      events = length trace.steps;
      taken = all_taken trace.steps;
      heads = all_heads trace.steps;
      body = all_body trace.steps;
      text = all_given trace.steps + length trace.buffered;
    }

-- each of them fits 64 bits
pub record DoFit (trace : Trace) : Type 0 where
  pub taken : all_taken trace.steps < 2 ^ 64
  pub heads : all_heads trace.steps < 2 ^ 64
  pub body : all_body trace.steps < 2 ^ 64
  pub text : all_given trace.steps + length trace.buffered < 2 ^ 64
