use Rattle.std.proofs.Common.{◌+◌, sym, ap, subst}
use Rattle.model_h1.specs.Place.{Place, in_size, bytes_end}
use Rattle.h1_payload.specs.Places.{place_of}
use Rattle.h1_payload.specs.QuietWays.{LeadsQuietly}
use Rattle.h1_payload.proofs.QuietWays.{then_leads, chunk_end_leads}
use Rattle.h1_payload.proofs.size_line.pass_usual.Goals as goal

pub returns-in-BytesEnd : goal.returns-in-BytesEnd
returns-in-BytesEnd c =
    let bytes = c.args.bytes.now in
    let at = c.pass_line-in-BytesEnd.result.0 in
    let place = place_of c.pass_line-in-BytesEnd.result.1 in
    let from = c.args.from in
    subst (λ (p : Place). LeadsQuietly p bytes from at place)
    (ap place_of (sym c.in-BytesEnd.is))
    (then_leads bytes_end (in_size 0) place bytes from (from + 2) at (chunk_end_leads bytes from c.if-has_line_end.ensures) c.pass_line-in-BytesEnd.ensures)
