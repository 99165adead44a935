-- What an event changes, and what the longer past gives: the form in which each event's case is proved.
use Rattle.std.proofs.Common.{◌≡◌, false, List, ◌∷◌, None}
use Rattle.model_h1.specs.Setting.{Setting}
use Rattle.model_h1.specs.Past.{ParsedStep}
use Rattle.model_h1.specs.Closing.{closing_since}
use Rattle.model_state.specs.Kept.{Kept}
use Rattle.model_state.specs.Kept.{Change}
use Rattle.model_state.specs.Change.{IsChange}
use Rattle.model_state.specs.KeptOf.{kept_of}

-- a state but for whether a head is coming, and since when the connection closes
abbrev pub bare : Kept → Kept
bare k = record k { is_coming = false; closing_since = None }

-- The step of a past as the machine has it: the case of its event, its outcome, and each part behind it but the two
-- that are settled behind every event alike.
pub record Changes (setting : Setting) (before : List ParsedStep) (x : ParsedStep) : Type 0 where
  pub change : Change
  pub changes : IsChange setting (kept_of setting before) x.step.event change
  pub answers : x.step.outcome ≡ change.outcome
  pub parts : bare change.kept ≡ bare (kept_of setting (x ∷ before))
  pub since : change.kept.closing_since ≡ closing_since setting before
