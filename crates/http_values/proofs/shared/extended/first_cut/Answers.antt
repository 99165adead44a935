use Rattle.std.proofs.Common.{lit<}
use Rattle.std.proofs.lemmas.Str.Pattern.{split_parts}
use Rattle.http_values.proofs.ExtendedLemmas.{first_cut_parts}
use Rattle.http_values.proofs.shared.extended.first_cut.Goals as goal

pub returns : goal.returns
returns c = first_cut_parts c.args.s.now c.split_once.result (split_parts 39 c.args.s.now c.split_once.result c.split_once.ensures.cases (lit< tt))
