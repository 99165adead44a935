-- A connection stores no trace: what it keeps stands for one.
use Rattle.std.specs.Prelude.{◌≡◌, List}
use Rattle.model_h1.specs.Setting.{Setting}
use Rattle.model_h1.specs.Sums.{Step}
use Rattle.model_h1.specs.Past.{ParsedStep}
use Rattle.model_h1.specs.Trace.{IsPastOf, IsTrace}
use Rattle.model_state.specs.Kept.{Kept}
use Rattle.model_state.specs.KeptOf.{kept_of}

-- the trace is one of a connection, and each part is the one that its past gives
pub record StandsFor (setting : Setting) (kept : Kept) (trace : List Step) : Type 0 where
  pub traced : IsTrace setting trace
  pub past : List ParsedStep
  pub of_trace : IsPastOf setting trace past
  pub parts : kept ≡ kept_of setting past
