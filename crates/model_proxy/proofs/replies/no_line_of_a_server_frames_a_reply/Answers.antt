use Rattle.model_proxy.proofs.ReplyLines.{one_length_replied, one_coding_replied}
use Rattle.model_proxy.proofs.replies.no_line_of_a_server_frames_a_reply.Goals as goal

pub returns-clause-lengths : goal.returns-clause-lengths
returns-clause-lengths c = one_length_replied

pub returns-clause-codings : goal.returns-clause-codings
returns-clause-codings c = one_coding_replied
