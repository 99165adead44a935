use Rattle.http_values.proofs.CharsetLemmas.{keeps_its_label}
use Rattle.http_values.proofs.shared.charset.charset_keeps_its_label.Goals as goal

pub returns : goal.returns
returns c = keeps_its_label
