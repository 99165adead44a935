use Rattle.model_proxy.proofs.Wants.{next_wants, pull_wants, answer_wants, end_wants, cut_wants, others_want, continue_tells}
use Rattle.model_proxy.proofs.left_laws.no_more_answers_are_wanted.Goals as goal

pub returns : goal.returns
returns c = record {
  next = next_wants;
  pull = pull_wants;
  answer = answer_wants;
  end = end_wants;
  cut = cut_wants;
  others = λ setting k next trace event o asks allowed x y. others_want setting k next trace event o asks allowed x y;
  told = continue_tells;
}
