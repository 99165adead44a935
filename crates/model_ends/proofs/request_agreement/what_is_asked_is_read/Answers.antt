use Rattle.model_ends.proofs.SentRequests.{asked_is_served, asked_alone}
use Rattle.model_ends.proofs.request_agreement.what_is_asked_is_read.Goals as goal

pub returns-clause-there_are : goal.returns-clause-there_are
returns-clause-there_are c = asked_is_served

pub returns-clause-no_others : goal.returns-clause-no_others
returns-clause-no_others c = asked_alone
