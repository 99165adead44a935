use Rattle.std.proofs.Common.{refl}
use Rattle.model_h1.specs.Event as on
use Rattle.serve_blocking.proofs.ServedLemmas.{quietly_adds, done_moves, seen_adds}
use Rattle.serve_blocking.proofs.body.Body.begin_answer.Goals as goal

pub returns-clause-adds : goal.returns-clause-adds
returns-clause-adds g c =
    seen_adds _ _ _ _ _ c.self.view_is
    (quietly_adds _ _ (on.answer _ _) on.done c.in_ok-answer.ensures.stands (done_moves (on.answer _ _) refl on.done refl) refl refl refl refl refl tt)
