use Rattle.proxy_heads.proofs.EdgeTexts.{ipv6_seen}
use Rattle.proxy_heads.proofs.edge.show_segments.Goals as goal

pub returns : goal.returns
returns c = ipv6_seen c.args.segments.now (λ k. (c.type_inv.segments k).fits)
