use Rattle.model_h1.proofs.HandedParsed.{handed_prefix}
use Rattle.model_h1.proofs.handed.handed_out_is_parsed.Goals as goal

pub returns : goal.returns
returns c setting trace parse x y = handed_prefix setting trace parse x y
