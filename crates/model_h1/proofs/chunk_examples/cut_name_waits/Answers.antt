use Rattle.std.proofs.Common.{refl}
use Rattle.httparse.specs.Grammar.{is_token_byte}
use Rattle.model_h1.specs.TakeNext.{take_next}
use Rattle.model_h1.proofs.chunk_examples.cut_name_waits.Goals as goal

pub returns : goal.returns
unfolding take_next is_token_byte
returns c = refl
