use Rattle.model_proxy.proofs.ForwardedLines.{one_length, one_coding}
use Rattle.model_proxy.proofs.request_laws.one_line_frames_the_body.Goals as goal

pub returns-clause-lengths : goal.returns-clause-lengths
returns-clause-lengths c = one_length

pub returns-clause-codings : goal.returns-clause-codings
returns-clause-codings c = one_coding
