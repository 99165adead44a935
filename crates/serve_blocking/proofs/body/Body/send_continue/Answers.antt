use Rattle.std.proofs.Common.{List, [], ◌∷◌, ◌≡◌, refl, ap}
use Rattle.model_h1.specs.Event as on
use Rattle.model_h1.specs.Sums.{Step}
use Rattle.serve_blocking.specs.Acts.{step}
use Rattle.serve_blocking.specs.Served.{Line}
use Rattle.serve_blocking.proofs.ServedLemmas.{quietly_adds, done_moves}
use Rattle.serve_blocking.proofs.Waited.{adds_does, seen_doing}
use Rattle.serve_blocking.proofs.body.Body.send_continue.Goals as goal

pub returns-clause-does : goal.returns-clause-does
returns-clause-does g c =
    seen_doing (λ (l : List Step). l ≡ step on.send_continue ∷ []) _ _ _ c.self.view_is
    (adds_does on.send_continue on.done _ _ refl
    (quietly_adds _ _ on.send_continue on.done c.in_ok-send_continue.ensures.stands (done_moves on.send_continue refl on.done refl) refl refl refl refl refl tt))

pub returns-clause-wanted : goal.returns-clause-wanted
returns-clause-wanted g c = ap (λ (l : Line). l.wanted) c.self.view_is
