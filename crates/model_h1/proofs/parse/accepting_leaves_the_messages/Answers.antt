use Rattle.model_h1.proofs.UpgradeLemmas.{parse_stays_upgraded}
use Rattle.model_h1.proofs.parse.accepting_leaves_the_messages.Goals as goal

pub returns : goal.returns
returns c = parse_stays_upgraded
