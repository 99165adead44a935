use Rattle.h1_dispatcher.proofs.Acts.{acts_run}
use Rattle.h1_dispatcher.proofs.laws.polls_are_one_run.Goals as goal

pub returns : goal.returns
returns c = λ v w acts is. acts_run v w acts is
