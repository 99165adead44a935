use Rattle.h1_payload.proofs.Fitting.{a_pull}
use Rattle.h1_payload.proofs.laws.a_pull_is_there.Goals as goal

pub returns : goal.returns
returns c = a_pull
