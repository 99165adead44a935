use Rattle.std.proofs.Common.{◌∙◌, ap}
use Rattle.h1_output.specs.Queued.{with_text}
use Rattle.h1_output.specs.OutputPieces.{in_row}
use Rattle.h1_output.proofs.Moves.{text_queued}
use Rattle.h1_output.proofs.queue.Segments.put_text.Goals as goal

pub returns-clause-ok : goal.returns-clause-ok
returns-clause-ok c =
    text_queued (in_row c.self.inside.first c.self.inside.rest.items) c.self.inside.own.items c.extend_from_slice.new.self.items c.args.text.now c.self.inside.marked c.self.inside.shared c.self.invariant.0 c.in_ok-extend_from_slice.ensures.ok
    ∙ ap (with_text c.args.text.now) c.self.view_is
