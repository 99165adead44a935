use Rattle.std.proofs.Common.{refl}
use Rattle.httparse.specs.Grammar.{trim_ows}
use Rattle.model_proxy.proofs.examples.what_is_told_of_a_client.Goals as goal

pub returns-clause-from_stranger : goal.returns-clause-from_stranger
unfolding trim_ows
returns-clause-from_stranger c = refl

pub returns-clause-from_friend : goal.returns-clause-from_friend
unfolding trim_ows
returns-clause-from_friend c = refl

pub returns-clause-protocol_of_stranger : goal.returns-clause-protocol_of_stranger
unfolding trim_ows
returns-clause-protocol_of_stranger c = refl

pub returns-clause-protocol_of_friend : goal.returns-clause-protocol_of_friend
unfolding trim_ows
returns-clause-protocol_of_friend c = refl

pub returns-clause-passed_by : goal.returns-clause-passed_by
unfolding trim_ows
returns-clause-passed_by c = refl

pub returns-clause-element : goal.returns-clause-element
unfolding trim_ows
returns-clause-element c = refl
