use Rattle.raspcream.proofs.CalledLemmas.{code_with}
use Rattle.raspcream.proofs.call.serve.Goals as goal

pub returns-clause-reason : goal.returns-clause-reason
returns-clause-reason c = code_with _ _ _ c.code_of.ensures.value c.on_server.ensures.refused
