use Rattle.std.proofs.Common.{refl}
use Rattle.httparse.specs.Grammar.{trim_ows}
use Rattle.model_h1.proofs.examples.last_connection_line.Goals as goal

pub returns : goal.returns
unfolding trim_ows
returns c = refl
