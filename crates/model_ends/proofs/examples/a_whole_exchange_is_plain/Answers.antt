use Rattle.model_ends.proofs.WholeExchange.{both_connected, both_plain}
use Rattle.model_ends.proofs.examples.a_whole_exchange_is_plain.Goals as goal

pub returns-clause-connected : goal.returns-clause-connected
returns-clause-connected c = both_connected

pub returns-clause-plain : goal.returns-clause-plain
returns-clause-plain c = both_plain
