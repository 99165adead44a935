use Rattle.model_h1.proofs.MessageGrowth.{parse_grows}
use Rattle.model_h1.proofs.parse.parse_stays.Goals as goal

pub returns : goal.returns
returns c = parse_grows
