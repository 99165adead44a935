use Rattle.proxy.proofs.Fresh.{later_answer}
use Rattle.proxy.proofs.laws.no_answer_comes_before_its_request.Goals as goal

pub returns : goal.returns
returns c = later_answer
