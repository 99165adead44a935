use Rattle.std.proofs.Common.{refl, ap, ◌∙◌}
use Rattle.h1_output.specs.Queued.{with_text}
use Rattle.h1_output.specs.OutputPieces.{in_row}
use Rattle.h1_output.proofs.Moves.{text_laid, text_queued}
use Rattle.h1_output.proofs.queue.Segments.put_with.Goals as goal

pub invariant_of-self : goal.invariant_of-self
invariant_of-self g c =
    let is = c.requires.appends c.self.inside.own c.write.result c.write.new.arg2 (record { shown = _; shows = refl; left = _; met = c.write.ensures; leaves = refl }) in
    (text_laid (in_row c.self.inside.first c.self.inside.rest.items) c.self.inside.own.items c.write.new.arg2.items is.0 c.self.inside.marked c.self.inside.shared c.self.invariant.0 is.1, c.self.invariant.1, c.self.invariant.2)

pub returns : goal.returns
returns g c =
    let is = c.requires.appends c.self.inside.own c.write.result c.write.new.arg2 (record { shown = _; shows = refl; left = _; met = c.write.ensures; leaves = refl }) in (
      is.0,
      text_queued (in_row c.self.inside.first c.self.inside.rest.items) c.self.inside.own.items c.write.new.arg2.items is.0 c.self.inside.marked c.self.inside.shared c.self.invariant.0 is.1 ∙ ap (with_text is.0) c.self.view_is,
      is.2,
      c.self.inside.own,
      c.write.new.arg2,
      record { shown = _; shows = refl; left = _; met = c.write.ensures; leaves = refl },
      is.1,
    )
