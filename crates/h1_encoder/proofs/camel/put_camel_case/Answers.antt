use Rattle.std.proofs.Common.{ℕ, List, ◌++◌, ap, sym, arith}
use Rattle.h1_encoder.proofs.CamelCase.{camel_case-cased}
use Rattle.h1_encoder.proofs.camel.put_camel_case.Goals as goal

pub loop-byte-init : goal.loop-byte-init
loop-byte-init c = record {
  text = ap (λ (l : List ℕ). c.args.out.now.items ++ l) (sym (camel_case-cased c.args.name.now));
  room = omega arith;
}
