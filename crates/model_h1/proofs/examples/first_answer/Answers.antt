use Rattle.std.proofs.Common.{refl}
use Rattle.model_h1.specs.AnswerText.{head_text, date_of, year_at, month_at, appended}
use Rattle.std.specs.Fmt.{digits}
use Rattle.model_h1.proofs.examples.first_answer.Goals as goal

pub returns-clause-text : goal.returns-clause-text
unfolding head_text date_of year_at month_at appended digits
returns-clause-text c = refl

pub returns-clause-size : goal.returns-clause-size
unfolding head_text date_of year_at month_at appended digits
returns-clause-size c = refl
