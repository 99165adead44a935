use Rattle.h1_connection.proofs.LawLemmas.{whole_fixed}
use Rattle.h1_connection.proofs.laws.whole_runs_are_one.Goals as goal

pub returns : goal.returns
returns c = whole_fixed
