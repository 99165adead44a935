use Rattle.std.proofs.Common.{◌≡◌, ◌≤◌, ℕ, List, length, take, ap, ◌∙◌, subst, arith}
use Rattle.std.proofs.lemmas.Bool.Decides.{nat_tests}
use Rattle.std.proofs.lemmas.Option.{IfSome_then}
use Rattle.h1_output.specs.OutputPieces.{in_row}
use Rattle.h1_output.proofs.Ends.{shared_first}
use Rattle.h1_output.proofs.queue.Segments.shared_front.Goals as goal

pub returns-in-Shared : goal.returns-in-Shared
returns-in-Shared c =
    let items = ap (λ f. in_row f c.self.inside.rest.items) c.in-Some.is in
    let none : c.in-Some.piece.before ≡ 0 = grind (arith, nat_tests, c.if-piece-gt0.false) in
    IfSome_then c.if_long.result c.if_long.ensures (λ b is. (
      is.0,
      ap (take c.args.count) is.1
          ∙ shared_first (in_row c.self.inside.first c.self.inside.rest.items) c.self.inside.rest.items c.self.inside.own.items c.in-Some.piece.before c.in-Some.piece.body c.in-Shared.bytes c.args.self.now c.args.count
          items none c.in-Shared.is c.self.view_is (subst (λ (l : List ℕ). c.args.count ≤ length l) is.1 is.0),
    ))
