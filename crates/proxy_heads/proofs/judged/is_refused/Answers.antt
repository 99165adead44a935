use Rattle.proxy_heads.specs.Edges.{edge_of}
use Rattle.proxy_heads.proofs.RequestLemmas.{taken, judged}
use Rattle.proxy_heads.proofs.judged.is_refused.Goals as goal

pub returns-then-edge : goal.returns-then-edge
returns-then-edge c = λ h says. taken (edge_of c.args.edge.now) h c.if-edge.true

pub returns : goal.returns
returns c = λ h says.
    judged (edge_of c.args.edge.now) c.args.item.now h c.is_right-is_right.result c.if-edge.false c.is_right-is_right.ensures says
