use Rattle.std.proofs.Common.{refl}
use Rattle.std.specs.Fmt.{digits}
use Rattle.h1_generated.specs.Generated.{head_text, body_text, exchange, exchanges_from}
use Rattle.h1_generated.proofs.examples.first_of_seed_0.Goals as goal

pub returns-clause-events : goal.returns-clause-events
unfolding digits head_text body_text exchange exchanges_from
returns-clause-events c = refl
