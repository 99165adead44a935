use Rattle.h1_codec.specs.ClientState.{of_codec, client_standing}
use Rattle.model_codecs.proofs.Answers.{connection_given}
use Rattle.model_codecs.proofs.laws.client_codecs_give_what_a_connection_sent.Goals as goal

pub returns : goal.returns
returns c codec limit setting trace turns more some fresh plain whole held to run came =
    connection_given limit (client_standing (of_codec codec)) setting trace turns more some fresh plain whole held to run came
