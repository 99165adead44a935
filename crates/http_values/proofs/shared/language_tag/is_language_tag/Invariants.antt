use Rattle.std.proofs.Common.{◌≡◌, map, Some}
use Rattle.std.specs.Prelude.{fold}
use Rattle.http_values.specs.declared.shared.language_tag.Place.TheVariants.{Start}
use Rattle.http_values.proofs.TagSteps.{step}
use Rattle.http_values.proofs.shared.language_tag.is_language_tag.Given as goal

abbrev pub invariant-loop-subtag : goal.invariant-loop-subtag
invariant-loop-subtag l = l.place ≡ fold step (Some Start) (map (λ subtag. subtag.now) l.yielded)
