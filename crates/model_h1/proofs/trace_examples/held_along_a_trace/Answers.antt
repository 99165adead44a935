use Rattle.std.proofs.Common.{refl}
use Rattle.model_h1.specs.Sums.{taken, request, since_head}
use Rattle.model_h1.specs.Past.{place_behind, pulled_to}
use Rattle.model_h1.proofs.ExampleSteps.{get_written, happens}
use Rattle.model_h1.proofs.trace_examples.held_along_a_trace.Goals as goal

pub returns : goal.returns
unfolding taken since_head request pulled_to place_behind
returns c = (happens _ _ get_written, refl, refl, refl, refl, refl, refl, refl, refl, refl, refl)
