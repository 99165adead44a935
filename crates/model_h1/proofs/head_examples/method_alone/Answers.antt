use Rattle.model_h1.proofs.ExampleLemmas.{method_alone_refused}
use Rattle.model_h1.proofs.head_examples.method_alone.Goals as goal

pub returns : goal.returns
returns c = method_alone_refused
