use Rattle.http_framing.specs.HeaderLines.{IsLine}
use Rattle.http_framing.proofs.HeaderLines.{no_span, line_at}
use Rattle.h1_payload.proofs.trailers.read_lines.Goals as goal

pub read_line-requires-clause-line : goal.read_line-requires-clause-line
unfolding no_span
read_line-requires-clause-line c =
    line_at c.args.text.now c.args.fields.now c.loop-field.field-index no_span c.loop-field-test.true IsLine c.requires.lines
