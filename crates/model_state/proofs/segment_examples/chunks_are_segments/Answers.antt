use Rattle.std.proofs.Common.{refl}
use Rattle.std.specs.Fmt.{digits}
use Rattle.model_h1.specs.AnswerText.{head_text, date_of, year_at, month_at, appended}
use Rattle.model_h1.specs.Sums.{written, request, answered, answer_len, last_tick}
use Rattle.model_h1.specs.Text.{text, step_text}
use Rattle.model_state.specs.Runs.{runs_behind}
use Rattle.model_state.specs.Marks.{step_runs, body_runs}
use Rattle.model_state.proofs.segment_examples.chunks_are_segments.Goals as goal

pub returns : goal.returns
unfolding text step_text step_runs body_runs runs_behind written request answered answer_len last_tick head_text date_of year_at month_at appended digits
returns c = (refl, refl, refl)
