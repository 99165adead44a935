use Rattle.std.proofs.Common.{refl, lit≤, lit<}
use Rattle.model_h1.specs.AnswerText.{appended}
use Rattle.model_ends.proofs.OrdinaryHeads.{stream_back}
use Rattle.model_ends.proofs.agreement_examples.a_stream_is_plain.Goals as goal

pub returns-clause-whole : goal.returns-clause-whole
unfolding appended
returns-clause-whole c = (
  record {
    status = lit≤ tt;
    unrefused = λ same. refl;
    shape = refl;
    size = λ e. cc;
    fits = λ n e. cc;
    short = (lit< tt, (lit< tt, tt));
    back = stream_back;
    few = lit≤ tt;
  },
  refl,
)

pub returns-clause-part : goal.returns-clause-part
unfolding appended
returns-clause-part c = (
  record {
    status = lit≤ tt;
    unrefused = λ same. refl;
    shape = refl;
    size = λ e. cc;
    fits = λ n e. cc;
    short = (lit< tt, (lit< tt, tt));
    back = stream_back;
    few = lit≤ tt;
  },
  refl,
)
