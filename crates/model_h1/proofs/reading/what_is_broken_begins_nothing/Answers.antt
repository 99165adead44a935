use Rattle.model_h1.proofs.Broken.{broken_begins_nothing}
use Rattle.model_h1.proofs.reading.what_is_broken_begins_nothing.Goals as goal

pub returns : goal.returns
returns c = broken_begins_nothing
