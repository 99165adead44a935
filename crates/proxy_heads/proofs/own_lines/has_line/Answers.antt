use Rattle.std.proofs.Common.{◌∙◌}
use Rattle.proxy_heads.proofs.RequestLemmas.{has_in}
use Rattle.proxy_heads.proofs.own_lines.has_line.Goals as goal

pub returns : goal.returns
returns c = c.contains_key.ensures.found ∙ has_in c.args.name c.args.headers.now c.len-valid.ensures.valid
