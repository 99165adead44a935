use Rattle.std.proofs.Common.{arith}
use Rattle.proxy_heads.proofs.TargetLemmas.{authority_at, authority_all, authority_within}
use Rattle.proxy_heads.proofs.targets.authority_len.Goals as goal

pub returns-in-Some-clause-value : goal.returns-in-Some-clause-value
returns-in-Some-clause-value c = authority_at c.args.text.now c.in-Some.at c.in-Some.ensures

pub returns-in-Some-clause-within : goal.returns-in-Some-clause-within
returns-in-Some-clause-within c =
    omega (arith, authority_at c.args.text.now c.in-Some.at c.in-Some.ensures, authority_within c.args.text.now)

pub returns-in-None-clause-value : goal.returns-in-None-clause-value
returns-in-None-clause-value c = authority_all c.args.text.now c.in-None.ensures
