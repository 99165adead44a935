use Rattle.std.proofs.Common.{refl}
use Rattle.model_h1.specs.Event as on
use Rattle.serve_blocking.proofs.ServedLemmas.{quietly_adds, done_moves, seen_adds}
use Rattle.serve_blocking.proofs.body.Body.end_answer.Goals as goal

pub returns-clause-adds : goal.returns-clause-adds
returns-clause-adds g c =
    seen_adds _ _ _ _ _ c.self.view_is
    (quietly_adds _ _ on.body_end on.done c.in_ok-end_answer.ensures.stands (done_moves on.body_end refl on.done refl) refl refl refl refl refl tt)
