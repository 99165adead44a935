use Rattle.std.proofs.Common.{sym, ◌||◌, ◌∙◌}
use Rattle.model_client.specs.ClientStep.{is_ambiguous}
use Rattle.h1_client.proofs.after.is_last_answer.Goals as goal

pub returns-then-switches : goal.returns-then-switches
returns-then-switches c = λ piece a reading says. λ i. (sym c.if-switches.true ∙ c.switches-switches.ensures a says) i || is_ambiguous a

pub returns : goal.returns
returns c = λ piece a reading says.
    c.is_ambiguous-misleads.ensures piece a reading says
    ∙ (λ i. (sym c.if-switches.false ∙ c.switches-switches.ensures a says) i || is_ambiguous a)
