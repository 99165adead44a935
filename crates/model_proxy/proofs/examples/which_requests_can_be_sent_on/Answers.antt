use Rattle.std.proofs.Common.{refl}
use Rattle.httparse.specs.Grammar.{trim_ows}
use Rattle.model_proxy.proofs.examples.which_requests_can_be_sent_on.Goals as goal

pub returns-clause-ordinary : goal.returns-clause-ordinary
unfolding trim_ows
returns-clause-ordinary c = refl

pub returns-clause-connect : goal.returns-clause-connect
unfolding trim_ows
returns-clause-connect c = refl

pub returns-clause-asterisk : goal.returns-clause-asterisk
unfolding trim_ows
returns-clause-asterisk c = refl

pub returns-clause-options : goal.returns-clause-options
unfolding trim_ows
returns-clause-options c = refl

pub returns-clause-absolute : goal.returns-clause-absolute
unfolding trim_ows
returns-clause-absolute c = refl

pub returns-clause-scheme : goal.returns-clause-scheme
unfolding trim_ows
returns-clause-scheme c = refl

pub returns-clause-protocol : goal.returns-clause-protocol
unfolding trim_ows
returns-clause-protocol c = refl

pub returns-clause-no_host : goal.returns-clause-no_host
unfolding trim_ows
returns-clause-no_host c = refl

pub returns-clause-user : goal.returns-clause-user
unfolding trim_ows
returns-clause-user c = refl
