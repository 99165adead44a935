use Rattle.std.proofs.Common.{Err, refl, ap}
use Rattle.serve_blocking.specs.Served.{Line}
use Rattle.serve_blocking.proofs.ServedLemmas.{read_in, failed, kept_left, keeps_equal}
use Rattle.serve_blocking.proofs.Waited.{does_wait, seen_waits}
use Rattle.serve_blocking.proofs.body.Body.read_bytes.Goals as goal

pub returns-clause-waits : goal.returns-clause-waits
returns-clause-waits g c =
    let read = c.in_ok-count.ensures.stands in
    seen_waits _ _ _ c.self.view_is (does_wait _ _ (read_in _ _ read.0 read.2 read.3 refl refl refl refl) refl)

pub returns-in_err-count-clause-waits : goal.returns-in_err-count-clause-waits
returns-in_err-count-clause-waits g c =
    does_wait _ _
    (failed _ _ _ c.self.view_is c.in_err-count.ensures.err
    (kept_left _ _ _ (λ is. c.in_err-count.ensures.left (ap Err is)) (λ other. ap g.S.Source.left (c.in_err-count.ensures.unasked other)))
    (keeps_equal _ _ refl) refl refl refl)
    (ap (λ (l : Line). l.wanted) c.self.view_is)
