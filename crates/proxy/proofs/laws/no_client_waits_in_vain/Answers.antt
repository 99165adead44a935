use Rattle.proxy.proofs.Served.{no_answer_in_vain, no_body_in_vain, none_turns}
use Rattle.proxy.proofs.laws.no_client_waits_in_vain.Goals as goal

pub returns : goal.returns
returns c = record { answer = no_answer_in_vain; body = no_body_in_vain; held_up = none_turns }
