use Rattle.std.proofs.Common.{refl}
use Rattle.httparse.specs.Grammar.{trim_ows}
use Rattle.model_proxy.proofs.examples.which_answers_close.Goals as goal

pub returns-clause-by_type : goal.returns-clause-by_type
unfolding trim_ows
returns-clause-by_type c = refl

pub returns-clause-by_word : goal.returns-clause-by_word
unfolding trim_ows
returns-clause-by_word c = refl

pub returns-clause-neither : goal.returns-clause-neither
unfolding trim_ows
returns-clause-neither c = refl
