-- The traces of a connection: each event is allowed behind those before it, and has the outcome of the
-- table. The parse sees all bytes taken, and never how they were cut into reads. Each trace has one past.
use Rattle.std.specs.Prelude.{◌≡◌, List, [], ◌∷◌, IsTrue, IsFalse, ⊤}
use Rattle.model_h1.specs.Setting.{Setting}
use Rattle.model_h1.specs.Event.{Event, Outcome}
use Rattle.model_h1.specs.Sums.{Step}
use Rattle.model_h1.specs.Past.{ParsedStep, steps, IsPast}
use Rattle.model_h1.specs.Allowed.{is_allowed}
use Rattle.model_h1.specs.OutcomeTable.{outcome_of}

-- the past is that of this trace
pub record IsPastOf (setting : Setting) (trace : List Step) (past : List ParsedStep) : Type 0 where
  pub same : steps past ≡ trace
  pub right : IsPast setting past

-- the event is allowed behind the trace
abbrev pub IsAllowed : Setting → List Step → Event → Type 0
IsAllowed setting trace event = (past : List ParsedStep) × IsPastOf setting trace past × IsTrue (is_allowed setting past event)

-- the event isn't allowed behind the trace
abbrev pub IsMisplaced : Setting → List Step → Event → Type 0
IsMisplaced setting trace event = (past : List ParsedStep) × IsPastOf setting trace past × IsFalse (is_allowed setting past event)

-- the event's outcome behind the trace
abbrev pub IsOutcome : Setting → List Step → Event → Outcome → Type 0
IsOutcome setting trace event outcome =
    (past : List ParsedStep) × IsPastOf setting trace past × (outcome ≡ outcome_of setting past event)

-- each event is allowed where it comes, and its outcome is the table's
abbrev pub IsTrace : Setting → List Step → Type 0
IsTrace setting [] = ⊤
IsTrace setting (s ∷ before) =
    IsAllowed setting before s.event × IsOutcome setting before s.event s.outcome × IsTrace setting before
