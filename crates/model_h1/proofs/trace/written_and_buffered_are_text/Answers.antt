use Rattle.model_h1.proofs.WrittenLemmas.{written_buffered}
use Rattle.model_h1.proofs.trace.written_and_buffered_are_text.Goals as goal

pub returns : goal.returns
returns c = written_buffered
