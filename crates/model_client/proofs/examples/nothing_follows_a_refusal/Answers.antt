use Rattle.std.proofs.lemmas.Bool.{false≢true}
use Rattle.model_client.proofs.examples.nothing_follows_a_refusal.Goals as goal

pub returns : goal.returns
returns c size place start bytes fault h next = λ x. false≢true x.1
