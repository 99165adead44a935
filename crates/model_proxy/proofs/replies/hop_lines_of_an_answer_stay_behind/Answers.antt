use Rattle.model_proxy.proofs.ReplyLines.{hops_gone}
use Rattle.model_proxy.proofs.replies.hop_lines_of_an_answer_stay_behind.Goals as goal

pub returns : goal.returns
returns c = hops_gone
