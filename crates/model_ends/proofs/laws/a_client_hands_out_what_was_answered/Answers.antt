use Rattle.model_ends.proofs.Agreement.{client_reads}
use Rattle.model_ends.proofs.laws.a_client_hands_out_what_was_answered.Goals as goal

pub returns : goal.returns
returns c setting asked kept ss more further some ran is to sent held = client_reads setting asked kept ss more further some ran is to sent held
