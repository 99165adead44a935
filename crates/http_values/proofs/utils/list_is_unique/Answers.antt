use Rattle.http_values.proofs.ListReadings.{AreRead-unique}
use Rattle.http_values.proofs.utils.list_is_unique.Goals as goal

pub returns : goal.returns
returns g c = λ readable. AreRead-unique g.T.FromText.is_text g.T.FromText.reads readable
