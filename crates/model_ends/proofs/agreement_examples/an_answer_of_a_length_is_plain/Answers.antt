use Rattle.std.proofs.Common.{◌≡◌, ◌<◌, ◌^◌, refl, subst, lit≤, lit<}
use Rattle.model_h1.specs.AnswerText.{appended}
use Rattle.model_ends.proofs.OrdinaryHeads.{two_back}
use Rattle.model_ends.proofs.agreement_examples.an_answer_of_a_length_is_plain.Goals as goal

pub returns-clause-whole : goal.returns-clause-whole
unfolding appended
returns-clause-whole c = (
  record {
    status = lit≤ tt;
    unrefused = λ same. refl;
    shape = refl;
    size = λ e. cc;
    fits = λ n e. let same : 2 ≡ n = cc in subst (λ k. k < 2 ^ 64) same (lit< tt);
    short = (lit< tt, (lit< tt, tt));
    back = two_back;
    few = lit≤ tt;
  },
  refl,
)

pub returns-clause-part : goal.returns-clause-part
unfolding appended
returns-clause-part c = (
  record {
    status = lit≤ tt;
    unrefused = λ same. refl;
    shape = refl;
    size = λ e. cc;
    fits = λ n e. let same : 2 ≡ n = cc in subst (λ k. k < 2 ^ 64) same (lit< tt);
    short = (lit< tt, tt);
    back = two_back;
    few = lit≤ tt;
  },
  refl,
)
