use Rattle.h1_payload.proofs.Whole.{one_payload, a_payload}
use Rattle.h1_payload.proofs.laws.bytes_say_one_thing.Goals as goal

pub returns-clause-one : goal.returns-clause-one
returns-clause-one c = one_payload

pub returns-clause-some : goal.returns-clause-some
returns-clause-some c = a_payload
