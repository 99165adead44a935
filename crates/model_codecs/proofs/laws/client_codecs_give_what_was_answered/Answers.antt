use Rattle.h1_codec.specs.ClientState.{of_codec, client_standing}
use Rattle.model_codecs.proofs.Answers.{answers_given}
use Rattle.model_codecs.proofs.laws.client_codecs_give_what_was_answered.Goals as goal

pub returns : goal.returns
returns c codec limit sent turns more some fresh are_sent whole held to run text =
    answers_given limit (client_standing (of_codec codec)) turns sent more some fresh are_sent whole held to run text
