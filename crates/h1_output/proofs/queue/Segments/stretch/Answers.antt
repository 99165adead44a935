use Rattle.std.proofs.Common.{rules, length, ap, arith}
use Rattle.h1_output.specs.OutputPieces.{in_row}
use Rattle.h1_output.proofs.Moves.{own_stretch, own_segment}
use Rattle.h1_output.proofs.queue.Segments.stretch.Goals as goal

pub returns-then-self-eq0-clause-stretch : goal.returns-then-self-eq0-clause-stretch
returns-then-self-eq0-clause-stretch c =
    own_stretch (in_row c.self.inside.first c.self.inside.rest.items) c.self.inside.own.items c.self.inside.marked c.self.inside.shared c.as_slice.result.now c.args.self.now c.self.invariant.0 (search rules) c.self.view_is c.as_slice.ensures

pub returns-then-self-eq0-clause-segment : goal.returns-then-self-eq0-clause-segment
returns-then-self-eq0-clause-segment c =
    own_segment (in_row c.self.inside.first c.self.inside.rest.items) c.self.inside.own.items c.self.inside.marked c.self.inside.shared c.as_slice.result.now c.args.self.now c.self.invariant.0 (search rules) c.self.view_is c.as_slice.ensures

pub returns-clause-segment : goal.returns-clause-segment
returns-clause-segment c = omega (arith, ap length c.front.ensures.value)
