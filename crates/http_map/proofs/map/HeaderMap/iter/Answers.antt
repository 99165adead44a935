use Rattle.http_map.proofs.MapLemmas.{length-pairs}
use Rattle.http_map.proofs.map.HeaderMap.iter.Goals as goal

pub returns-clause-count : goal.returns-clause-count
returns-clause-count c = rw (← c.self.view_is, c.new.ensures, c.iter.ensures) (length-pairs c.self.inside.names)
