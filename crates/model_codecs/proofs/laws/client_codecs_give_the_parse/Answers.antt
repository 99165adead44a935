use Rattle.h1_codec.specs.ClientState.{of_codec, client_standing}
use Rattle.model_codecs.proofs.Parsed.{answers_given}
use Rattle.model_codecs.proofs.laws.client_codecs_give_the_parse.Goals as goal

pub returns : goal.returns
returns c codec limit count method left acts more rest last ms idle run few parsed =
    answers_given limit method (client_standing (of_codec codec)) last left acts more rest count ms idle run few parsed
