use Rattle.std.proofs.Common.{refl}
use Rattle.model_h1.specs.AnswerText.{year_at, month_at, date_of}
use Rattle.h1_encoder.proofs.date.first_line.Goals as goal

pub returns : goal.returns
unfolding date_of year_at month_at
returns c = refl
