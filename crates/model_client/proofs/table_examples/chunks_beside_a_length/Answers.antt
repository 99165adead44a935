use Rattle.std.proofs.Common.{refl}
use Rattle.httparse.specs.Grammar.{trim_ows}
use Rattle.model_client.proofs.table_examples.chunks_beside_a_length.Goals as goal

pub returns : goal.returns
unfolding trim_ows
returns c = refl
