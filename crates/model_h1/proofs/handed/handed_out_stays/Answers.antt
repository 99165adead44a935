use Rattle.std.proofs.Common.{reverse, sym, subst, arith}
use Rattle.std.proofs.lemmas.List.{length-reverse}
use Rattle.model_h1.specs.Handed.{IsPrefixFrom}
use Rattle.model_h1.proofs.MessageGrowth.{parse_grows}
use Rattle.model_h1.proofs.HandedLemmas.{prefix_grows}
use Rattle.model_h1.proofs.handed.handed_out_stays.Goals as goal

pub returns : goal.returns
returns c i j more out ms ns bytes upgraded size ended x y few prefix =
    let grow = parse_grows i j more ms ns bytes upgraded size ended x y in
    let order = reverse out.messages in
    let grown = prefix_grows i.hold_size i.bytes j.bytes 0 order ms ns grow (omega (arith, length-reverse out.messages)) prefix.1 in
    (prefix.0, subst (λ n. IsPrefixFrom n j.bytes 0 order ns) (sym size) grown)
