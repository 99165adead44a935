use Rattle.model_proxy.proofs.ReplyLines.{via_behind}
use Rattle.model_proxy.proofs.replies.via_is_added_to_answers.Goals as goal

pub returns : goal.returns
returns c = via_behind
