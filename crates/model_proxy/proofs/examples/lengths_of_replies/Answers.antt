use Rattle.std.proofs.Common.{refl}
use Rattle.httparse.specs.Grammar.{trim_ows}
use Rattle.model_h1.specs.AnswerText.{appended}
use Rattle.model_proxy.proofs.examples.lengths_of_replies.Goals as goal

pub returns-clause-kept : goal.returns-clause-kept
unfolding trim_ows appended
returns-clause-kept c = refl

pub returns-clause-named : goal.returns-clause-named
unfolding trim_ows appended
returns-clause-named c = refl

pub returns-clause-written_anew : goal.returns-clause-written_anew
unfolding trim_ows appended
returns-clause-written_anew c = refl
