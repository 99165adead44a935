-- What is wrong with an answer's head, in the model.
use Rattle.model_h1.specs.Request as model
use Rattle.h1_client.specs.declared.heads.AnswerFault.{AnswerFault}
use Rattle.h1_client.specs.declared.heads.AnswerFault.TheVariants.{Malformed, TooLarge}

abbrev pub fault_of : AnswerFault → model.Fault
fault_of Malformed = model.malformed
fault_of TooLarge = model.too_large
