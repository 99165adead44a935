-- Why a task ends.
use Rattle.std.specs.Prelude.{◌≡◌, ◌⊎◌, ℕ, true, Option, Some, None}
use Rattle.serve_async.specs.JobRuns.{Polling, Draining, EndsBy}
use Rattle.serve_async.specs.Pace.{is_over}
use Rattle.serve_async.specs.declared.pace.Pace.{Pace}
use Rattle.serve_async.specs.declared.limits.Limits.{Limits}

-- what is known of how fast bytes move: what was, else what is from this moment on
abbrev pub pace_from : Option Pace → ℕ → ℕ → Pace
pace_from (Some pace) moment moved = pace
pace_from None moment moved = record { moved = moved; seen = moment; looked = moment; counted = moved }

-- its peer is given up: the job has no deadline, and of the bytes that have moved the limits say so
pub record IsGivenUp (due : Option ℕ) (limits : Limits) (pace : Option Pace) (moment : ℕ) : Type 0 where
  pub moved : ℕ
  pub none : due ≡ None
  pub over : is_over limits (pace_from pace moment moved) moment moved ≡ true

module _ {J O : Type 0} (polled : Polling J O) (drained : Draining J) where
  -- its job has ended at this moment, by a poll
  abbrev pub JobEnds : J → ℕ → J → Type 0
  JobEnds a moment b = (output : O) × EndsBy polled drained a moment output b

  -- a task ends: its job has ended, or its peer is given up
  abbrev pub TaskEnds : (J → Option ℕ) → Limits → Option Pace → J → ℕ → J → Type 0
  TaskEnds due limits pace a moment b = JobEnds a moment b ⊎ IsGivenUp (due b) limits pace moment
