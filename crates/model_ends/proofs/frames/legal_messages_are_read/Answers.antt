use Rattle.model_ends.proofs.LegalMessages.{legal_read, legal_alone}
use Rattle.model_ends.proofs.frames.legal_messages_are_read.Goals as goal

pub returns-clause-there_are : goal.returns-clause-there_are
returns-clause-there_are c reader max_payload masks takes small = legal_read reader max_payload masks takes small

pub returns-clause-no_others : goal.returns-clause-no_others
returns-clause-no_others c reader max_payload masks takes small = legal_alone reader max_payload masks takes small
