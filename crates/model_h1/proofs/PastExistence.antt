-- Each trace has a past.
use Rattle.std.proofs.Common.{List, [], ◌∷◌, refl, sym, ap, subst}
use Rattle.model_h1.specs.Setting.{Setting}
use Rattle.model_h1.specs.Parse.{IsParse}
use Rattle.model_h1.specs.Sums.{Step}
use Rattle.model_h1.specs.Past.{ParsedStep, input_of}
use Rattle.model_h1.specs.Trace.{IsPastOf}
use Rattle.model_h1.proofs.MessageExistence.{parse_exists}

-- the past of the steps before, and the parse of all bytes taken by now
pub past_exists : (setting : Setting) (trace : List Step) → (past : List ParsedStep) × IsPastOf setting trace past
past_exists setting [] = ([], record { same = refl; right = tt })
past_exists setting (s ∷ before) =
    let earlier = past_exists setting before in
    let now = parse_exists (input_of setting (s ∷ before)) in (
      record { step = s; parse = now.0 } ∷ earlier.0,
      record {
        same = ap (λ (l : List Step). s ∷ l) earlier.1.same;
        right = (subst (λ l. IsParse (input_of setting (s ∷ l)) now.0) (sym earlier.1.same) now.1, earlier.1.right);
      },
    )
