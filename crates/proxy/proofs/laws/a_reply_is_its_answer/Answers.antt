use Rattle.proxy.proofs.Carried.{is_carried}
use Rattle.proxy.proofs.laws.a_reply_is_its_answer.Goals as goal

pub returns : goal.returns
returns c = is_carried
