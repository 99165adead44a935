use Rattle.std.proofs.Common.{refl, lit≤, inl}
use Rattle.model_h1.specs.AnswerText.{appended, date_of, year_at, month_at}
use Rattle.httparse.specs.Grammar.{trim_ows}
use Rattle.std.specs.Fmt.{digits}
use Rattle.model_ends.proofs.OrdinaryHeads.{no_content_back, not_modified_back, with_length_back}
use Rattle.model_ends.proofs.agreement_examples.some_statuses_are_plain.Goals as goal

pub returns-clause-no_content : goal.returns-clause-no_content
unfolding appended
returns-clause-no_content c = (
  record {
    status = lit≤ tt;
    unrefused = λ same. refl;
    shape = refl;
    size = λ e. inl refl;
    fits = λ n e. cc;
    short = tt;
    back = no_content_back;
    few = lit≤ tt;
  },
  refl,
)

pub returns-clause-not_modified : goal.returns-clause-not_modified
unfolding appended
returns-clause-not_modified c = (
  record {
    status = lit≤ tt;
    unrefused = λ same. refl;
    shape = refl;
    size = λ e. inl refl;
    fits = λ n e. cc;
    short = tt;
    back = not_modified_back;
    few = lit≤ tt;
  },
  refl,
)

pub returns-clause-with_length : goal.returns-clause-with_length
unfolding appended trim_ows digits date_of year_at month_at
returns-clause-with_length c = (
  record {
    status = lit≤ tt;
    unrefused = λ same. refl;
    shape = refl;
    size = λ e. inl refl;
    fits = λ n e. cc;
    short = tt;
    back = with_length_back;
    few = lit≤ tt;
  },
  refl,
)
