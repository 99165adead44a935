use Rattle.model_client.proofs.AllHappened.{all_is_parsed}
use Rattle.model_client.proofs.Ended.{trace_ended}
use Rattle.model_client.proofs.laws.handed_out_is_parsed.Goals as goal

pub returns-clause-parsed : goal.returns-clause-parsed
returns-clause-parsed c setting trace k parse ran are = all_is_parsed setting trace k parse ran are

pub returns-clause-ended : goal.returns-clause-ended
returns-clause-ended c setting trace k ran = trace_ended setting trace k ran
