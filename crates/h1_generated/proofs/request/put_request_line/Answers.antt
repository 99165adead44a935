use Rattle.h1_generated.proofs.Texts.{line_made}
use Rattle.h1_generated.proofs.request.put_request_line.Goals as goal

pub returns : goal.returns
returns c =
    line_made _ _ _ _ _ _ _ _ c.method_of.ensures c.in_ok-extend_from_slice.ensures.ok c.in_ok-extend_from_slice-2.ensures.ok c.in_ok-put_number.ensures
    c.in_ok-extend_from_slice-3.ensures.ok
