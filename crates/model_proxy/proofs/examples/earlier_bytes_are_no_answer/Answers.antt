use Rattle.std.proofs.Common.{refl}
use Rattle.model_proxy.specs.Past.{servers}
use Rattle.model_proxy.proofs.examples.earlier_bytes_are_no_answer.Goals as goal

pub returns-clause-first : goal.returns-clause-first
unfolding servers
returns-clause-first c = refl

pub returns-clause-second : goal.returns-clause-second
unfolding servers
returns-clause-second c = refl
