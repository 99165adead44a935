use Rattle.std.proofs.Common.{refl}
use Rattle.httparse.specs.Grammar.{trim_ows}
use Rattle.model_client.proofs.machine_examples.ambiguous_answers.Goals as goal

pub returns-clause-older : goal.returns-clause-older
unfolding trim_ows
returns-clause-older c = refl
