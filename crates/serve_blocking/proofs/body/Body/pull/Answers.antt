use Rattle.std.proofs.Common.{refl, ap, ◌∙◌}
use Rattle.serve_blocking.specs.Acts.{given_behind}
use Rattle.serve_blocking.specs.Served.{Line}
use Rattle.serve_blocking.proofs.ServedLemmas.{pulls_here, unchanged}
use Rattle.serve_blocking.proofs.Dropped.{pulls_drop, does_drop}
use Rattle.serve_blocking.proofs.body.Body.pull.Goals as goal

pub returns-clause-pulls : goal.returns-clause-pulls
returns-clause-pulls g c = pulls_here _ _ _ c.in_ok-pulled.pulled c.self.view_is c.in_ok-pulled.ensures.stands refl refl refl refl c.is_given_behind-self-inside.ensures

pub returns-clause-drops : goal.returns-clause-drops
returns-clause-drops g c =
    pulls_drop c.in_ok-pulled.pulled _ _
    (pulls_here _ _ _ c.in_ok-pulled.pulled c.self.view_is c.in_ok-pulled.ensures.stands refl refl refl refl c.is_given_behind-self-inside.ensures)

pub returns-clause-ended : goal.returns-clause-ended
returns-clause-ended g c = c.is_given_behind-self-inside.ensures ∙ ap (λ (l : Line). given_behind c.in_ok-pulled.pulled l.ended) c.self.view_is

pub returns-clause-wanted : goal.returns-clause-wanted
returns-clause-wanted g c = ap (λ (l : Line). l.wanted) c.self.view_is

pub returns-in_err-pulled-clause-drops : goal.returns-in_err-pulled-clause-drops
returns-in_err-pulled-clause-drops g c = does_drop _ _ (unchanged _ _ _ c.self.view_is c.in_err-pulled.ensures.err refl refl refl refl refl)

pub returns-in_err-pulled-clause-wanted : goal.returns-in_err-pulled-clause-wanted
returns-in_err-pulled-clause-wanted g c = ap (λ (l : Line). l.wanted) c.self.view_is
