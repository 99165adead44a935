use Rattle.model_h1.proofs.Live.{open_begins}
use Rattle.model_h1.proofs.reading.what_goes_on_is_a_beginning.Goals as goal

pub returns : goal.returns
returns c = open_begins
