use Rattle.std.proofs.Common.{ap, ◌∙◌}
use Rattle.http_header.specs.Token.{lowercase}
use Rattle.h1_encoder.specs.Meaning.{headers_of}
use Rattle.proxy_heads.proofs.MapLemmas.{removed_lines}
use Rattle.proxy_heads.proofs.hops.remove_name.Goals as goal

pub returns : goal.returns
returns c = ap headers_of c.remove.ensures.after ∙ removed_lines (lowercase c.args.name.now) c.args.headers.now c.len-valid.ensures.valid.distinct
