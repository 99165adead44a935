use Rattle.model_ends.proofs.PlainExchange.{plain_sent}
use Rattle.model_ends.proofs.response_agreement.plain_answers_are_sent.Goals as goal

pub returns : goal.returns
returns c = plain_sent
