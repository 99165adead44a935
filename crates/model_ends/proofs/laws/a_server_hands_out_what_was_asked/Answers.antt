use Rattle.model_ends.proofs.Agreement.{server_serves}
use Rattle.model_ends.proofs.laws.a_server_hands_out_what_was_asked.Goals as goal

pub returns : goal.returns
returns c client server asked kept served more some client_ran server_ran is plain =
    server_serves client server asked kept served more some client_ran server_ran is plain
