use Rattle.std.proofs.Common.{refl}
use Rattle.httparse.specs.Grammar.{trim_ows}
use Rattle.model_h1.specs.AnswerText.{appended}
use Rattle.model_proxy.proofs.ExampleLemmas.{hi_answer}
use Rattle.model_proxy.proofs.examples.an_answer_is_found.Goals as goal

pub returns-clause-found : goal.returns-clause-found
unfolding trim_ows
returns-clause-found c = hi_answer

pub returns-clause-size : goal.returns-clause-size
unfolding trim_ows
returns-clause-size c = refl

pub returns-clause-lines : goal.returns-clause-lines
unfolding trim_ows appended
returns-clause-lines c = refl
