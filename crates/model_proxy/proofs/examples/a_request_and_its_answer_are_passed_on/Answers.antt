use Rattle.std.proofs.Common.{refl}
use Rattle.std.proofs.lemmas.Bool.{false≢true}
use Rattle.httparse.specs.Grammar.{trim_ows}
use Rattle.model_h1.specs.Sums as sums
use Rattle.model_h1.specs.Past.{place_behind, pulled_to}
use Rattle.model_h1.specs.Closing.{told, closing}
use Rattle.model_h1.specs.Allowed.{is_allowed}
use Rattle.model_h1.specs.OutcomeTable.{outcome_of}
use Rattle.model_proxy.specs.Past.{servers}
use Rattle.model_proxy.proofs.ExampleLemmas.{hi_found, hi_answer}
use Rattle.model_proxy.proofs.StepByStep.{whole_forwards}
use Rattle.model_proxy.proofs.examples.a_request_and_its_answer_are_passed_on.Goals as goal

pub returns-clause-forwards : goal.returns-clause-forwards
returns-clause-forwards c = whole_forwards

pub returns-clause-rests : goal.returns-clause-rests
unfolding sums.taken sums.accepted sums.request sums.since_head sums.answered sums.answer_len place_behind pulled_to told closing is_allowed outcome_of sums.last_tick servers trim_ows
returns-clause-rests c may = record {
  next = λ e. refl;
  told = λ e. absurd (false≢true e);
  waits = λ e. absurd (false≢true e);
  body = λ there low room sent e. absurd (false≢true e);
  spent = λ e x. absurd (x 0 refl (hi_found, hi_answer, refl, refl, refl));
  kept = λ e. refl;
  passing = λ e low. absurd (false≢true e);
}
