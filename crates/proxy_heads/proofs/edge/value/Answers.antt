use Rattle.std.proofs.Common.{Err}
use Rattle.proxy_heads.proofs.EdgeTexts.{visible_value}
use Rattle.proxy_heads.proofs.edge.value.Goals as goal

pub unreachable-requires : goal.unreachable-requires
unreachable-requires c = c.in-Err-Invalid.ensures.invalid.0 (λ i. Err (c.in-Err-Invalid.field-0-is i)) (visible_value _ c.requires)
