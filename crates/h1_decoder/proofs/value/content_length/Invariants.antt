use Rattle.std.proofs.Common.{◌≡◌, ◌<◌, ◌^◌, drop}
use Rattle.model_h1.specs.LengthTable.{length_value}
use Rattle.h1_decoder.proofs.LengthLemmas.{length_from}
use Rattle.h1_decoder.proofs.value.content_length.Given as goal

-- what the whole value spells is what the rest spells behind the number so far
abbrev pub invariant-loop-byte : goal.invariant-loop-byte
invariant-loop-byte l = record {
  so_far : length_value l.value ≡ length_from l.length (drop l.byte-index l.value);
  fits : l.length < 2 ^ 64;
}
