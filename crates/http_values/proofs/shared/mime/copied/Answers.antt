use Rattle.http_values.proofs.MimeParameters.{pairs_of-clones}
use Rattle.http_values.proofs.shared.mime.copied.Goals as goal

pub returns : goal.returns
returns c = pairs_of-clones c.args.params.now.items _ c.in_ok-copies.ensures.cases.0
