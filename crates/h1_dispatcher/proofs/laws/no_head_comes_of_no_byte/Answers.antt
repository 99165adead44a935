use Rattle.h1_dispatcher.proofs.NoHeads.{no_head}
use Rattle.h1_dispatcher.proofs.laws.no_head_comes_of_no_byte.Goals as goal

pub returns : goal.returns
returns c = λ v w peer head trace stands runs none is. no_head v w peer head trace stands runs none is
