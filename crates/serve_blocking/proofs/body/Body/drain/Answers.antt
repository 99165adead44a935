use Rattle.std.proofs.Common.{refl}
use Rattle.model_h1.specs.Event as on
use Rattle.serve_blocking.proofs.ServedLemmas.{quietly_adds, done_moves, seen_adds}
use Rattle.serve_blocking.proofs.body.Body.drain.Goals as goal

pub returns : goal.returns
returns g c = record {
  adds = seen_adds _ _ _ _ _ c.self.view_is
      (quietly_adds _ _ on.drain on.done c.drain.ensures.stands (done_moves on.drain refl on.done refl) refl refl refl refl refl tt);
}
