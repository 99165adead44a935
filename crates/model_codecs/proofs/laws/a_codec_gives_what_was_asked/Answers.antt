use Rattle.h1_codec.specs.ServerState.{codec_standing}
use Rattle.model_codecs.proofs.Requests.{requests_given}
use Rattle.model_codecs.proofs.laws.a_codec_gives_what_was_asked.Goals as goal

pub returns : goal.returns
returns c codec limit sent acts more rest last some fresh asked run text =
    requests_given limit (codec_standing codec) last sent acts more rest some fresh asked run text
