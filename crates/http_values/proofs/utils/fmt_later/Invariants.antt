use Rattle.std.proofs.Common.{take}
use Rattle.std.specs.Fmt.{HasWritten, IsPlainFormatter}
use Rattle.std.specs.Prelude.{IfSome}
use Rattle.http_values.specs.CommaList.{later_output}
use Rattle.http_values.proofs.utils.fmt_later.Given as goal

abbrev pub invariant-loop-part : goal.invariant-loop-part
invariant-loop-part g l =
    IfSome (later_output g.T.Display.output (take l.part-index l.parts))
    (λ bs. IsPlainFormatter l.initial.f → HasWritten g.W.Write.write_str_gives l.initial.f bs l.f)
