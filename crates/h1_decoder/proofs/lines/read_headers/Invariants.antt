use Rattle.std.proofs.Common.{◌≡◌, map, take, All}
use Rattle.httparse.specs.Spans.{header_bytes}
use Rattle.h1_decoder.specs.Framing.{TellsLines}
use Rattle.http_framing.specs.HeaderLines.{HasName, header_map, line_header}
use Rattle.h1_decoder.proofs.lines.read_headers.Given as goal

-- the lines so far have names, the map has them, and what is kept is what they say
abbrev pub invariant-loop-field : goal.invariant-loop-field
invariant-loop-field l =
    let lines = map (header_bytes l.piece) (take l.field-index l.fields) in
    record {
      names : All HasName lines;
      in_map : l.headers ≡ header_map (map line_header lines);
      told : TellsLines l.framing (map line_header lines);
    }
