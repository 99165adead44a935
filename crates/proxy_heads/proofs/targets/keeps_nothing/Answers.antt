use Rattle.proxy_heads.proofs.TargetLemmas.{first_kept, none_kept}
use Rattle.proxy_heads.proofs.targets.keeps_nothing.Goals as goal

pub returns-in-Some : goal.returns-in-Some
returns-in-Some c = first_kept c.args.tail.now c.in-Some.byte.now c.in-Some.ensures.value

pub returns-in-None : goal.returns-in-None
returns-in-None c = none_kept c.args.tail.now c.in-None.ensures.value
