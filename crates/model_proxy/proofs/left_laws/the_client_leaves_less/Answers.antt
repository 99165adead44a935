use Rattle.model_proxy.proofs.Client.{next_leaves, pull_of_client, no_more}
use Rattle.model_proxy.proofs.left_laws.the_client_leaves_less.Goals as goal

pub returns : goal.returns
returns c = record { next = next_leaves; pull = pull_of_client; others = no_more }
