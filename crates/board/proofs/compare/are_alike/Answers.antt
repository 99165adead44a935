use Rattle.std.proofs.Common.{rules, IsTrue, true}
use Rattle.board.proofs.Cursors.{through_agrees}
use Rattle.board.proofs.compare.are_alike.Goals as goal

pub returns : goal.returns
returns g c =
    λ told.
    let walked : IsTrue c.walk.result = search rules in
    through_agrees c.args.journal.now c.args.passes.now c.walk.new.cursors (c.walk.ensures walked) (c.are_through.ensures told)
