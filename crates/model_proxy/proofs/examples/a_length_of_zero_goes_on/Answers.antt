use Rattle.std.proofs.Common.{refl}
use Rattle.std.specs.Fmt.{digits}
use Rattle.httparse.specs.Grammar.{trim_ows}
use Rattle.model_h1.specs.AnswerText.{date_of, year_at, month_at, appended}
use Rattle.model_client.specs.RequestText.{request_text}
use Rattle.model_proxy.proofs.examples.a_length_of_zero_goes_on.Goals as goal

pub returns-clause-stated : goal.returns-clause-stated
unfolding trim_ows date_of year_at month_at appended digits request_text
returns-clause-stated c = refl

pub returns-clause-unstated : goal.returns-clause-unstated
unfolding trim_ows date_of year_at month_at appended digits request_text
returns-clause-unstated c = refl
