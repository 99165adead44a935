use Rattle.model_client.specs.RequestText.{as_answer}
use Rattle.model_ends.proofs.CleanHeads.{clean_back, written_clean}
use Rattle.model_ends.proofs.heads.clean_heads_are_read_back.Goals as goal

pub returns-clause-answer : goal.returns-clause-answer
returns-clause-answer c = clean_back

pub returns-clause-request : goal.returns-clause-request
returns-clause-request c r shape size kind now = written_clean r.minor (as_answer r) shape size kind now
