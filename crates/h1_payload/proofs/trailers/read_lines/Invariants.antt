use Rattle.std.proofs.Common.{◌≡◌, map, take}
use Rattle.httparse.specs.Spans.{header_bytes}
use Rattle.http_framing.specs.HeaderLines.{header_map, line_header}
use Rattle.h1_payload.proofs.trailers.read_lines.Given as goal

-- the map has the lines so far
abbrev pub invariant-loop-field : goal.invariant-loop-field
invariant-loop-field l = l.headers ≡ header_map (map line_header (map (header_bytes l.text) (take l.field-index l.fields)))
