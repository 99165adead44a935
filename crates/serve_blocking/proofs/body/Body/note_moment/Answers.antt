use Rattle.std.proofs.Common.{refl, ap}
use Rattle.model_h1.specs.Event as on
use Rattle.serve_blocking.proofs.ServedLemmas.{quietly_adds, quietly_waits, tick_moves, expiry_keeps, seen_adds, unchanged}
use Rattle.serve_blocking.proofs.Waited.{does_wait}
use Rattle.serve_blocking.specs.Served.{Line}
use Rattle.serve_blocking.proofs.body.Body.note_moment.Goals as goal

pub returns-clause-waits : goal.returns-clause-waits
returns-clause-waits g c =
    quietly_waits _ _ _ (on.tick c.args.moment) _ c.self.view_is refl c.in_ok-expiry.ensures.stands (tick_moves _ c.in_ok-expiry.expiry _ refl) refl refl refl refl
    (expiry_keeps c.in_ok-expiry.expiry _) refl tt

pub returns-clause-ticks : goal.returns-clause-ticks
returns-clause-ticks g c =
    seen_adds _ _ _ _ _ c.self.view_is
    (quietly_adds _ _ (on.tick c.args.moment) _ c.in_ok-expiry.ensures.stands (tick_moves _ c.in_ok-expiry.expiry _ refl) refl refl refl refl
    (expiry_keeps c.in_ok-expiry.expiry _) tt)

pub returns-in_err-expiry-clause-waits : goal.returns-in_err-expiry-clause-waits
returns-in_err-expiry-clause-waits g c =
    does_wait _ _ (unchanged _ _ _ c.self.view_is c.in_err-expiry.ensures.err refl refl refl refl refl) (ap (λ (l : Line). l.wanted) c.self.view_is)
