use Rattle.model_ends.proofs.SentAnswers.{sent_is_read, sent_alone}
use Rattle.model_ends.proofs.response_agreement.what_is_sent_is_read.Goals as goal

pub returns-clause-there_are : goal.returns-clause-there_are
returns-clause-there_are c = sent_is_read

pub returns-clause-no_others : goal.returns-clause-no_others
returns-clause-no_others c = sent_alone
