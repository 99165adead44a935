use Rattle.http_values.proofs.QualityItemLemmas.{last_cut_parts}
use Rattle.http_values.proofs.shared.quality_item.last_cut.Goals as goal

pub returns : goal.returns
returns c = last_cut_parts c.args.s.now c.rsplit_once.result c.rsplit_once.ensures.cases
