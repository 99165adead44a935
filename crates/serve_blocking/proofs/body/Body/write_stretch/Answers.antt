use Rattle.std.proofs.Common.{refl, ap}
use Rattle.serve_blocking.specs.Served.{Line}
use Rattle.serve_blocking.proofs.ServedLemmas.{stretch_written, failed, keeps_equal}
use Rattle.serve_blocking.proofs.Waited.{does_wait, seen_waits}
use Rattle.serve_blocking.proofs.body.Body.write_stretch.Goals as goal

pub returns : goal.returns
returns g c = record {
  waits = seen_waits _ _ _ c.self.view_is
      (does_wait _ _
      (stretch_written _ _ c.in_ok-count.count c.stretch.result.now _ _ c.in_ok-count.ensures.bound c.stretch.ensures.first.1 c.advance.ensures.stands
      c.in_ok-count.ensures.bytes refl refl refl refl)
      refl);
}

pub returns-in_err-count : goal.returns-in_err-count
returns-in_err-count g c = record {
  waits = does_wait _ _ (failed _ _ _ c.self.view_is refl (keeps_equal _ _ refl) c.in_err-count.ensures.bytes refl refl refl) (ap (λ (l : Line). l.wanted) c.self.view_is);
}
