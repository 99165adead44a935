use Rattle.std.proofs.Common.{◌≤◌, length, subst}
use Rattle.h1_output.specs.Queued.{Queued, front_of, IsStretch}
use Rattle.h1_connection.proofs.connection.output.Output.stretch.Goals as goal

pub returns-clause-stretch : goal.returns-clause-stretch
returns-clause-stretch c = subst (λ (q : Queued). IsStretch q.bytes c.stretch.result.now) c.self.view_is c.stretch.ensures.stretch

pub returns-clause-segment : goal.returns-clause-segment
returns-clause-segment c = subst (λ (q : Queued). length (front_of q) ≤ length c.stretch.result.now) c.self.view_is c.stretch.ensures.segment
