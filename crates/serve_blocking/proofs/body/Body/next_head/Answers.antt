use Rattle.std.proofs.Common.{refl}
use Rattle.serve_blocking.proofs.ServedLemmas.{handed_out}
use Rattle.serve_blocking.proofs.body.Body.next_head.Goals as goal

pub returns-clause-hands_out : goal.returns-clause-hands_out
returns-clause-hands_out g c =
    handed_out _ _ _ c.in_ok-kind.kind _ c.self.view_is c.in_ok-kind.ensures.stands refl refl refl refl c.is_given_after-self-inside.ensures
