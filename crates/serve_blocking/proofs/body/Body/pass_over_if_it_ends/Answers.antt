use Rattle.serve_blocking.proofs.Dropped.{drops_none}
use Rattle.serve_blocking.proofs.body.Body.pass_over_if_it_ends.Goals as goal

pub returns-then-eq-clause-drops : goal.returns-then-eq-clause-drops
returns-then-eq-clause-drops g c = drops_none _

pub returns-then-can_continue-clause-drops : goal.returns-then-can_continue-clause-drops
returns-then-can_continue-clause-drops g c = drops_none _
