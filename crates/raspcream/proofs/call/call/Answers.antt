use Rattle.std.proofs.Common.{refl}
use Rattle.raspcream.proofs.CalledLemmas.{called, not_called, none_is}
use Rattle.raspcream.proofs.call.call.Goals as goal

pub returns-in-Some : goal.returns-in-Some
returns-in-Some c = called _ _ _ _ _ _ _ _ _ c.in-Some.ensures.some c.step.ensures.kept c.step.ensures.reason c.step.ensures.quiet c.step.ensures.few c.clear.ensures c.step.ensures.done

pub returns-in-None : goal.returns-in-None
returns-in-None c = not_called _ _ _ _ _ (none_is _ (c.in-None.ensures.none refl)) c.clear.ensures
