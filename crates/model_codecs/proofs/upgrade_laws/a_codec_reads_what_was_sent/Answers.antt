use Rattle.model_codecs.proofs.Received.{codec_received}
use Rattle.model_codecs.proofs.upgrade_laws.a_codec_reads_what_was_sent.Goals as goal

pub returns : goal.returns
returns g c client after messages text server acts more is wrote reads fresh small legal decoding came =
    codec_received g.R.Rng.stream client after messages text server acts more is wrote reads fresh small legal decoding came
