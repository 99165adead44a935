use Rattle.std.proofs.Common.{refl, sym, subst}
use Rattle.std.specs.Io.KnownBytes.{IsAtEnd}
use Rattle.model_h1.specs.Event as on
use Rattle.serve_blocking.specs.Served.{Line}
use Rattle.serve_blocking.proofs.ServedLemmas.{quietly_waits, done_moves}
use Rattle.serve_blocking.proofs.body.Body.end_input.Goals as goal

pub returns : goal.returns
returns g c = record {
  waits = quietly_waits _ _ _ on.eof on.done c.self.view_is refl c.eof.ensures.stands (done_moves on.eof refl on.done refl) refl refl refl refl refl refl
      (subst (λ (l : Line). IsAtEnd l.left) (sym c.self.view_is) c.requires.at_end);
}
