use Rattle.model_client.proofs.Closing.{reason_stays}
use Rattle.model_client.proofs.machine_laws.closing_stays.Goals as goal

pub returns-clause-reason : goal.returns-clause-reason
returns-clause-reason c = reason_stays
