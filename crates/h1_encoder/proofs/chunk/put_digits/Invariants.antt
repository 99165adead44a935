use Rattle.std.proofs.Common.{◌≡◌, ◌+◌, ◌^◌, ◌<◌, ◌≤◌, drop, true}
use Rattle.std.specs.Fmt.{digits_onto}
use Rattle.httparse.specs.Ascii.{crlf_bytes}
use Rattle.h1_encoder.proofs.chunk.put_digits.Given as goal

abbrev pub invariant-loop-left : goal.invariant-loop-left
invariant-loop-left l = record {
  some : 0 < l.at;
  room : l.at ≤ 16;
  fits : l.left < 16 ^ l.at;
  whole : digits_onto (48 + l.at) 16 true l.left (drop l.at l.line) ≡ digits_onto 64 16 true l.size crlf_bytes;
}

abbrev pub decreases-loop-left : goal.decreases-loop-left
decreases-loop-left l = l.left
