use Rattle.model_proxy.proofs.ForwardedLines.{address_added, element_added}
use Rattle.model_proxy.proofs.edge_laws.the_lists_of_earlier_clients_grow.Goals as goal

pub returns-clause-address : goal.returns-clause-address
returns-clause-address c = address_added

pub returns-clause-element : goal.returns-clause-element
returns-clause-element c = element_added
