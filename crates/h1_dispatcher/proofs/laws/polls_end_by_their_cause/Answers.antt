use Rattle.h1_dispatcher.proofs.Causes.{poll_has}
use Rattle.h1_dispatcher.proofs.laws.polls_end_by_their_cause.Goals as goal

pub returns : goal.returns
returns c = λ v w cx moment result says. poll_has v w cx moment result says
