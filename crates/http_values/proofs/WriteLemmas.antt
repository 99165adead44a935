-- One part more of a list that is written.
use Rattle.std.proofs.Common.{ℕ, List, Option, Some, None, Result}
use Rattle.std.specs.Prelude.{IfSome, IsOk}
use Rattle.std.specs.declared.fmt.Formatter.{Formatter}
use Rattle.std.specs.declared.fmt.Error.{Error}
use Rattle.std.specs.Fmt.{HasWritten, IsPlainFormatter, WritesOnOk, DisplaysOnOk, ◌++?◌}
use Rattle.std.proofs.Output.{has_written_append}

-- what was written, then a separator, then a part
pub later_step : {W : Type 0} (took : W → List ℕ → W → Type 0) (o : Option (List ℕ)) (separator : List ℕ) (x : Option (List ℕ)) (f f1 f2 f3 : Formatter W)
    (r s : Result (Unit {0}) Error)
    → IfSome o (λ bs. IsPlainFormatter f → HasWritten took f bs f1)
    → WritesOnOk took f1 r separator f2 → IsOk r → DisplaysOnOk took f2 s x f3 → IsOk s
    → IfSome (o ++? (Some separator ++? x)) (λ bs. IsPlainFormatter f → HasWritten took f bs f3)
later_step took None separator x f f1 f2 f3 r s before write ok show fine = tt
later_step took (Some a) separator None f f1 f2 f3 r s before write ok show fine = tt
later_step took (Some a) separator (Some b) f f1 f2 f3 r s before write ok show fine =
    λ plain.
    let first = before plain in
    let second = write first.plain ok in
    let third = show second.plain fine in
    has_written_append _ _ _ _ _ _ first (has_written_append _ _ _ _ _ _ second third)
