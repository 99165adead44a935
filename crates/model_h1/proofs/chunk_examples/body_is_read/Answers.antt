use Rattle.std.proofs.Common.{refl}
use Rattle.httparse.specs.Grammar.{is_token_byte}
use Rattle.model_h1.specs.Reading.{read}
use Rattle.model_h1.proofs.chunk_examples.body_is_read.Goals as goal

pub returns : goal.returns
unfolding read is_token_byte
returns c = refl
