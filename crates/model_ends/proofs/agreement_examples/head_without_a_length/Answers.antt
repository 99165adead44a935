use Rattle.std.proofs.Common.{refl, lit≤, inr}
use Rattle.model_h1.specs.AnswerText.{appended, date_of, year_at, month_at}
use Rattle.std.specs.Fmt.{digits}
use Rattle.model_ends.proofs.OrdinaryHeads.{bare_back}
use Rattle.model_ends.proofs.agreement_examples.head_without_a_length.Goals as goal

pub returns-clause-plain : goal.returns-clause-plain
unfolding appended
returns-clause-plain c = (
  record {
    status = lit≤ tt;
    unrefused = λ same. refl;
    shape = refl;
    size = λ e. inr refl;
    fits = λ n e. cc;
    short = tt;
    back = bare_back;
    few = lit≤ tt;
  },
  refl,
)

pub returns-clause-server : goal.returns-clause-server
returns-clause-server c = refl

pub returns-clause-client : goal.returns-clause-client
unfolding appended date_of year_at month_at digits
returns-clause-client c = refl
