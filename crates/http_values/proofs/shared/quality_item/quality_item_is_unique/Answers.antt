use Rattle.http_values.proofs.QualityItemLemmas.{item_unique}
use Rattle.http_values.proofs.shared.quality_item.quality_item_is_unique.Goals as goal

pub returns-clause-item : goal.returns-clause-item
returns-clause-item c = λ text item item' n n' a b. (item_unique text item item' n n' a b).0

pub returns-clause-quality : goal.returns-clause-quality
returns-clause-quality c = λ text item item' n n' a b. (item_unique text item item' n n' a b).1
