use Rattle.h1_generated.proofs.Texts.{head_made}
use Rattle.h1_generated.proofs.request.put_head.Goals as goal

pub returns : goal.returns
returns c = head_made _ _ _ _ _ _ _ c.in_ok-put_request_line.ensures c.in_ok-put_framing.ensures c.in_ok-extend_from_slice.ensures.ok
