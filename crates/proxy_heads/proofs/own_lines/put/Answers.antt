use Rattle.std.proofs.Common.{ap, ◌∙◌}
use Rattle.h1_encoder.specs.Meaning.{headers_of}
use Rattle.proxy_heads.proofs.MapLemmas.{put_one}
use Rattle.proxy_heads.proofs.own_lines.put.Goals as goal

pub returns : goal.returns
returns c = ap headers_of c.in_ok-append.ensures.ok ∙ put_one c.args.headers.now c.args.name c.args.value c.len-valid.ensures.valid
