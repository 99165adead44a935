use Rattle.h1_payload.proofs.Gives.{pull_gives_some}
use Rattle.h1_payload.proofs.laws.pulls_give_some.Goals as goal

pub returns : goal.returns
returns c = pull_gives_some
