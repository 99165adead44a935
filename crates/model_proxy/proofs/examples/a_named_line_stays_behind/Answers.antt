use Rattle.std.proofs.Common.{refl}
use Rattle.std.specs.Fmt.{digits}
use Rattle.httparse.specs.Grammar.{trim_ows}
use Rattle.model_h1.specs.AnswerText.{date_of, year_at, month_at, appended}
use Rattle.model_client.specs.RequestText.{request_text}
use Rattle.model_proxy.proofs.examples.a_named_line_stays_behind.Goals as goal

pub returns-clause-words : goal.returns-clause-words
unfolding trim_ows date_of year_at month_at appended digits request_text
returns-clause-words c = refl

pub returns-clause-text : goal.returns-clause-text
unfolding trim_ows date_of year_at month_at appended digits request_text
returns-clause-text c = refl
