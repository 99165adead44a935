use Rattle.model_codecs.proofs.Received.{session_received}
use Rattle.model_codecs.proofs.upgrade_laws.a_session_reads_what_was_sent.Goals as goal

pub returns : goal.returns
returns g c client after messages text limit acts more is wrote small legal reading came =
    session_received g.R.Rng.stream client after messages text limit acts more is wrote small legal reading came
