use Rattle.model_proxy.proofs.ForwardedLines.{address_alone, element_alone, proto_alone, host_alone}
use Rattle.model_proxy.proofs.edge_laws.a_clients_own_words_are_replaced.Goals as goal

pub returns-clause-address : goal.returns-clause-address
returns-clause-address c = address_alone

pub returns-clause-element : goal.returns-clause-element
returns-clause-element c = element_alone

pub returns-clause-protocol : goal.returns-clause-protocol
returns-clause-protocol c = proto_alone

pub returns-clause-host : goal.returns-clause-host
returns-clause-host c = host_alone
