use Rattle.std.proofs.Common.{◌≡◌, ◌+◌, ◌++◌, drop}
use Rattle.model_h1.specs.AnswerText.{camel_case}
use Rattle.h1_encoder.proofs.CamelCase.{cased}
use Rattle.h1_encoder.proofs.request_camel.put_camel_case.Given as goal

abbrev pub invariant-loop-byte : goal.invariant-loop-byte
invariant-loop-byte l = record {
  text : l.out.items ++ cased l.raises (drop l.byte-index l.name) ≡ l.fn.out.items ++ camel_case l.name;
  room : l.out.spare + l.byte-index ≡ l.fn.out.spare;
}
