use Rattle.std.proofs.Common.{◌∙◌, ap, subst}
use Rattle.model_state.specs.Runs.{IsFirstSegment}
use Rattle.h1_output.specs.Queued.{Queued, front_of, IsStretch}
use Rattle.h1_connection.proofs.connection.output.Output.front.Goals as goal

pub returns-clause-value : goal.returns-clause-value
returns-clause-value c = c.front.ensures.value ∙ ap front_of c.self.view_is

pub returns-clause-first : goal.returns-clause-first
returns-clause-first c = subst (λ (q : Queued). IsFirstSegment q.marks q.bytes c.front.result.now) c.self.view_is c.front.ensures.first

pub returns-clause-stretch : goal.returns-clause-stretch
returns-clause-stretch c = subst (λ (q : Queued). IsStretch q.bytes c.front.result.now) c.self.view_is c.front.ensures.stretch
