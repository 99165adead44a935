use Rattle.model_codecs.proofs.Written.{request_written}
use Rattle.model_codecs.proofs.laws.requests_are_written.Goals as goal

pub returns : goal.returns
returns c = request_written
