use Rattle.std.proofs.Common.{◌∙◌, sym}
use Rattle.http_values.proofs.shared.language_tag.language_tag_is_unique.Goals as goal

pub returns : goal.returns
returns c = λ text tag tag' h k. h ∙ sym k
