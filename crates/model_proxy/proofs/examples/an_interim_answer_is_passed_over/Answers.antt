use Rattle.model_proxy.proofs.ExampleLemmas.{interim_passed}
use Rattle.model_proxy.proofs.examples.an_interim_answer_is_passed_over.Goals as goal

pub returns : goal.returns
returns c = interim_passed
