use Rattle.model_h1.proofs.MessageExistence.{parse_exists}
use Rattle.model_h1.proofs.parse.parse_exists.Goals as goal

pub returns : goal.returns
returns c = parse_exists
