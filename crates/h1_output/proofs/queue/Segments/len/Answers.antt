use Rattle.std.proofs.Common.{arith, ap, length}
use Rattle.h1_output.specs.OutputPieces.{in_row}
use Rattle.h1_output.proofs.Laid.{laid_size}
use Rattle.h1_output.proofs.queue.Segments.len.Goals as goal

pub overflow_add-result : goal.overflow_add-result
overflow_add-result c = omega (arith, c.self.invariant.1, c.len.ensures.bound)

pub returns : goal.returns
returns c =
    let size = laid_size (in_row c.self.inside.first c.self.inside.rest.items) c.self.inside.own.items c.self.invariant.0.fits in
    let all = ap (λ q. length q.bytes) c.self.view_is in
    omega (arith, size, all, c.len.ensures.value, c.self.invariant.0.many_is)
