use Rattle.std.proofs.Common.{◌≡◌, length, ◌∙◌, arith}
use Rattle.std.proofs.lemmas.Bool.Decides.{nat_tests}
use Rattle.h1_output.specs.OutputPieces.{in_row}
use Rattle.h1_output.proofs.Ends.{all_empty}
use Rattle.h1_output.proofs.queue.Segments.give_back.Goals as goal

pub returns-then-is_empty : goal.returns-then-is_empty
returns-then-is_empty c =
    let none : length c.args.self.now.bytes ≡ 0 = grind (arith, nat_tests, c.is_empty.ensures, c.if-is_empty.true) in
    c.drop.view_is ∙ c.new.ensures
    ∙ all_empty (in_row c.self.inside.first c.self.inside.rest.items) c.self.inside.own.items c.self.inside.marked c.self.inside.shared c.args.self.now c.self.invariant.0 c.self.view_is none
