use Rattle.std.proofs.Common.{refl}
use Rattle.std.specs.Fmt.{digits}
use Rattle.httparse.specs.Grammar.{trim_ows}
use Rattle.model_h1.specs.AnswerText.{date_of, year_at, month_at, appended}
use Rattle.model_client.specs.RequestText.{request_text}
use Rattle.model_proxy.proofs.examples.whole_targets_are_sent_as_paths.Goals as goal

pub returns-clause-path : goal.returns-clause-path
unfolding trim_ows date_of year_at month_at appended digits request_text
returns-clause-path c = refl

pub returns-clause-no_path : goal.returns-clause-no_path
unfolding trim_ows date_of year_at month_at appended digits request_text
returns-clause-no_path c = refl

pub returns-clause-query : goal.returns-clause-query
unfolding trim_ows date_of year_at month_at appended digits request_text
returns-clause-query c = refl

pub returns-clause-asterisk : goal.returns-clause-asterisk
unfolding trim_ows date_of year_at month_at appended digits request_text
returns-clause-asterisk c = refl

pub returns-clause-all : goal.returns-clause-all
unfolding trim_ows date_of year_at month_at appended digits request_text
returns-clause-all c = refl

pub returns-clause-not_all : goal.returns-clause-not_all
unfolding trim_ows date_of year_at month_at appended digits request_text
returns-clause-not_all c = refl

pub returns-clause-host : goal.returns-clause-host
unfolding trim_ows date_of year_at month_at appended digits request_text
returns-clause-host c = refl

pub returns-clause-none : goal.returns-clause-none
unfolding trim_ows date_of year_at month_at appended digits request_text
returns-clause-none c = refl
