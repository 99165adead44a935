use Rattle.http_header.specs.Token.{lowercase}
use Rattle.http_map.proofs.LineLemmas.{stands-position, lacks-position}
use Rattle.http_map.proofs.table.many.find.Goals as goal

pub returns-clause-found : goal.returns-clause-found
returns-clause-found c = stands-position (lowercase c.args.bytes.now) c.args.names.now.entries c.get_index_of.result c.get_index_of.ensures.index

pub returns-clause-lacks : goal.returns-clause-lacks
returns-clause-lacks c = lacks-position (lowercase c.args.bytes.now) c.args.names.now.entries c.get_index_of.result c.get_index_of.ensures.found
