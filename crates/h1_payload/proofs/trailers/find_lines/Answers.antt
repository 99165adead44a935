use Rattle.std.proofs.Common.{◌≤◌, [], length, map, ap, ◌∙◌, arith}
use Rattle.httparse.specs.Grammar.{crlf}
use Rattle.http_framing.specs.HeaderLines.{line_header}
use Rattle.h1_payload.proofs.Lines.{field_of, reads_lines, headers_of_lines, lines_fit, lines_at}
use Rattle.h1_payload.proofs.trailers.find_lines.Goals as goal

pub returns-in-Ok-Complete-clause-within : goal.returns-in-Ok-Complete-clause-within
returns-in-Ok-Complete-clause-within c =
    let within = rw c.in-Ok-Complete.field-0-is at c.in-Ok-Complete.ensures.within in
    let section = rw c.in-Ok-Complete.field-0-is at c.in-Ok-Complete.ensures.complete in
    lines_at c.args.text.now c.parse_headers.new.headers _ _ section.0 section.1 within section.2 c.requires.short

pub returns-in-Ok-Complete-clause-found : goal.returns-in-Ok-Complete-clause-found
returns-in-Ok-Complete-clause-found c lines ok is =
    let text = c.args.text.now in
    let room : length (map field_of lines) ≤ length c.args.fields.now = omega (arith, lines_fit lines text ok is, c.requires.room) in
    let at = rw c.in-Ok-Complete.field-0-is at (c.in-Ok-Complete.ensures.found (map field_of lines) crlf [] (reads_lines lines text ok is) room) in
    ap (map line_header) at.fields_are ∙ headers_of_lines lines

pub returns-in-Ok-Partial-clause-found : goal.returns-in-Ok-Partial-clause-found
returns-in-Ok-Partial-clause-found c lines ok is =
    let text = c.args.text.now in
    let room : length (map field_of lines) ≤ length c.args.fields.now = omega (arith, lines_fit lines text ok is, c.requires.room) in
    rw c.in-Ok-Partial.field-0-is at (c.in-Ok-Partial.ensures.found (map field_of lines) crlf [] (reads_lines lines text ok is) room)

pub returns-in-Err-clause-found : goal.returns-in-Err-clause-found
returns-in-Err-clause-found c lines ok is =
    let text = c.args.text.now in
    let room : length (map field_of lines) ≤ length c.args.fields.now = omega (arith, lines_fit lines text ok is, c.requires.room) in
    c.in-Err.ensures.found (map field_of lines) crlf [] (reads_lines lines text ok is) room
