use Rattle.std.proofs.Common.{ℕ, List, Option, take, sym, subst, arith, refl}
use Rattle.std.specs.Prelude.{IfSome, codes}
use Rattle.http_values.specs.CommaList.{later_output}
use Rattle.std.specs.Fmt.{HasWritten, IsPlainFormatter}
use Rattle.http_values.proofs.ListLemmas.{later_output-more}
use Rattle.http_values.proofs.WriteLemmas.{later_step}
use Rattle.http_values.proofs.utils.fmt_later.Goals as goal

pub loop-part-preserved : goal.loop-part-preserved
loop-part-preserved g c =
    let P : Option (List ℕ) → Type 0 = λ o. IfSome o (λ bs. IsPlainFormatter c.args.f.now → HasWritten g.W.Write.write_str_gives c.args.f.now bs c.fmt.new.f) in
    let e = later_output-more g.T.Display.output c.args.parts.now c.loop-part.part-index c.part-item.result (omega arith) c.part-item.is in
    subst P (sym e)
    (later_step g.W.Write.write_str_gives (later_output g.T.Display.output (take c.loop-part.part-index c.args.parts.now)) (codes ", ") (g.T.Display.output c.part-item.result) c.args.f.now c.loop-part.f c.write_str.new.self c.fmt.new.f
    c.write_str.result c.fmt.result c.loop-part.invariant c.write_str.ensures.writes (rw c.in_ok-write_str.was refl) c.fmt.ensures.writes (rw c.in_ok-fmt.was refl))
