use Rattle.raspcream.proofs.CalledLemmas.{code_with}
use Rattle.raspcream.proofs.call.request.Goals as goal

pub returns-clause-reason : goal.returns-clause-reason
returns-clause-reason c = code_with _ _ _ c.code_of.ensures.value c.on_client.ensures.refused
