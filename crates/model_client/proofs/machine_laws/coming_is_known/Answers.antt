use Rattle.std.proofs.Common.{sym, subst}
use Rattle.model_client.specs.ClientStep.{KnowsComing}
use Rattle.model_client.proofs.machine_laws.coming_is_known.Goals as goal

pub returns : goal.returns
returns c = λ setting k next event o x. subst KnowsComing (sym x.keeps) x.comes
