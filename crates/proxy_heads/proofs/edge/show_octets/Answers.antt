use Rattle.proxy_heads.proofs.EdgeTexts.{ipv4_seen}
use Rattle.proxy_heads.proofs.edge.show_octets.Goals as goal

pub returns : goal.returns
returns c = ipv4_seen c.args.octets.now (λ k. (c.type_inv.octets k).fits)
