use Rattle.http_values.proofs.MediaTypeLemmas.{mime_unique}
use Rattle.http_values.proofs.shared.mime.mime_is_unique.Goals as goal

pub returns : goal.returns
returns c = mime_unique
