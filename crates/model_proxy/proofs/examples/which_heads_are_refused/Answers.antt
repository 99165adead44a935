use Rattle.std.proofs.Common.{refl}
use Rattle.httparse.specs.Grammar.{trim_ows}
use Rattle.model_proxy.proofs.examples.which_heads_are_refused.Goals as goal

pub returns-clause-ordinary : goal.returns-clause-ordinary
unfolding trim_ows
returns-clause-ordinary c = refl

pub returns-clause-no_host : goal.returns-clause-no_host
unfolding trim_ows
returns-clause-no_host c = refl

pub returns-clause-no_host_of_old : goal.returns-clause-no_host_of_old
unfolding trim_ows
returns-clause-no_host_of_old c = refl

pub returns-clause-two_hosts : goal.returns-clause-two_hosts
unfolding trim_ows
returns-clause-two_hosts c = refl

pub returns-clause-blank : goal.returns-clause-blank
unfolding trim_ows
returns-clause-blank c = refl

pub returns-clause-user : goal.returns-clause-user
unfolding trim_ows
returns-clause-user c = refl

pub returns-clause-path : goal.returns-clause-path
unfolding trim_ows
returns-clause-path c = refl

pub returns-clause-user_in_target : goal.returns-clause-user_in_target
unfolding trim_ows
returns-clause-user_in_target c = refl

pub returns-clause-high_byte : goal.returns-clause-high_byte
unfolding trim_ows
returns-clause-high_byte c = refl

pub returns-clause-fragment : goal.returns-clause-fragment
unfolding trim_ows
returns-clause-fragment c = refl

pub returns-clause-no_path : goal.returns-clause-no_path
unfolding trim_ows
returns-clause-no_path c = refl

pub returns-clause-taken : goal.returns-clause-taken
unfolding trim_ows
returns-clause-taken c = refl
