use Rattle.h1_codec.specs.ServerState.{codec_standing}
use Rattle.model_codecs.proofs.Parsed.{parse_given}
use Rattle.model_codecs.proofs.laws.a_codec_gives_the_parse.Goals as goal

pub returns : goal.returns
returns c codec limit acts more rest last ms fresh run parsed = parse_given limit (codec_standing codec) last acts more rest ms fresh run parsed
