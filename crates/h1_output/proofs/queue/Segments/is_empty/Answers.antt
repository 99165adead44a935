use Rattle.std.proofs.Common.{rules, arith, ap, ◌≡◌, length, refl}
use Rattle.std.proofs.lemmas.Bool.Decides.{nat_tests}
use Rattle.h1_output.specs.OutputPieces.{in_row}
use Rattle.h1_output.proofs.Laid.{laid_size}
use Rattle.h1_output.proofs.queue.Segments.is_empty.Goals as goal

pub returns-then-is_empty : goal.returns-then-is_empty
returns-then-is_empty c =
    let size = laid_size (in_row c.self.inside.first c.self.inside.rest.items) c.self.inside.own.items c.self.invariant.0.fits in
    let all = ap (λ q. length q.bytes) c.self.view_is in
    let many = c.self.invariant.0.many_is in
    let own : length c.self.inside.own.items ≡ 0 = search rules in
    let sum : length c.args.self.now.bytes ≡ c.self.inside.shared = omega (arith, size, all, many, own) in
    rw sum refl

pub returns-else-is_empty : goal.returns-else-is_empty
returns-else-is_empty c =
    let size = laid_size (in_row c.self.inside.first c.self.inside.rest.items) c.self.inside.own.items c.self.invariant.0.fits in
    let all = ap (λ q. length q.bytes) c.self.view_is in
    let many = c.self.invariant.0.many_is in
    grind (arith, nat_tests, size, all, many)
