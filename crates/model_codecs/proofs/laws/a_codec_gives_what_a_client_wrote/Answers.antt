use Rattle.h1_codec.specs.ServerState.{codec_standing}
use Rattle.model_codecs.proofs.Written.{written_given}
use Rattle.model_codecs.proofs.laws.a_codec_gives_what_a_client_wrote.Goals as goal

pub returns : goal.returns
returns c codec limit wrote acts more rest last some fresh written plain run text =
    written_given limit (codec_standing codec) last wrote acts more rest some fresh written plain run text
