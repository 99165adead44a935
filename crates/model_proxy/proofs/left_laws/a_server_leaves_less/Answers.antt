use Rattle.model_proxy.proofs.Server.{answer_leaves, piece_leaves, all_left}
use Rattle.model_proxy.proofs.left_laws.a_server_leaves_less.Goals as goal

pub returns : goal.returns
returns c = record { next = answer_leaves; pull = piece_leaves; others = all_left }
