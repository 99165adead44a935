use Rattle.std.proofs.Common.{arith, drop, length, ◌-◌, length-drop}
use Rattle.std.proofs.Math.Seq.{take_all}
use Rattle.http_values.proofs.QualityLemmas.{whole_answer, pointed_answer}
use Rattle.http_values.proofs.shared.quality.read_quality.Goals as goal

pub returns-in_ok-digit-in-len1 : goal.returns-in_ok-digit-in-len1
returns-in_ok-digit-in-len1 c =
    whole_answer c.args.text.now _ _ (omega arith) (omega arith) c.in_ok-digit-in-len1.ensures.0 c.in_ok-digit-in-len1.ensures.1 c.q.ensures

pub returns-in_ok-places-in-46 : goal.returns-in_ok-places-in-46
returns-in_ok-places-in-46 c =
    let b = c.in_ok-places-in-46.ensures in
    pointed_answer c.args.text.now _ _ _ _ (omega arith) (omega arith) (take_all (length c.args.text.now - 2) (drop 2 c.args.text.now) (omega (arith, length-drop 2 c.args.text.now)))
    c.in_ok-digit-in-46.ensures.0 c.in_ok-digit-in-46.ensures.1 b.0 b.1 c.q-in-46.ensures
