use Rattle.model_client.proofs.Written.{is_text}
use Rattle.model_client.proofs.machine_laws.requests_are_written.Goals as goal

pub returns : goal.returns
returns c = λ setting trace k x. (is_text setting trace k x).text
