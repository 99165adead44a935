use Rattle.std.proofs.Common.{arith}
use Rattle.proxy_heads.proofs.TargetLemmas.{scheme_at, scheme_all, scheme_within}
use Rattle.proxy_heads.proofs.targets.scheme_len.Goals as goal

pub returns-in-Some-clause-value : goal.returns-in-Some-clause-value
returns-in-Some-clause-value c = scheme_at c.args.target.now c.in-Some.at c.in-Some.ensures

pub returns-in-Some-clause-within : goal.returns-in-Some-clause-within
returns-in-Some-clause-within c =
    omega (arith, scheme_at c.args.target.now c.in-Some.at c.in-Some.ensures, scheme_within c.args.target.now)

pub returns-in-None-clause-value : goal.returns-in-None-clause-value
returns-in-None-clause-value c = scheme_all c.args.target.now c.in-None.ensures
