use Rattle.std.proofs.Common.{refl}
use Rattle.std.specs.Fmt.{digits}
use Rattle.httparse.specs.Grammar.{trim_ows}
use Rattle.model_h1.specs.AnswerText.{date_of, year_at, month_at, appended}
use Rattle.model_client.specs.RequestText.{request_text}
use Rattle.model_proxy.proofs.examples.a_length_is_written_anew.Goals as goal

pub returns : goal.returns
unfolding trim_ows date_of year_at month_at appended digits request_text
returns c = refl
