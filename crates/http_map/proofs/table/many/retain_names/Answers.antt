use Rattle.std.proofs.Common.{rules}
use Rattle.http_map.specs.Retain.{MayAnswer}
use Rattle.http_map.specs.contracts.table.many.retain_names.F-Fn.{words}
use Rattle.http_map.proofs.RetainLemmas.{Retains-RetainsPairs}
use Rattle.http_map.proofs.table.many.retain_names.Goals as goal

pub returns : goal.returns
returns g c =
    Retains-RetainsPairs _ (MayAnswer ((words g.row.F g.F.Fn).post c.args.keep.now)) _ (λ k v b w f call. search rules) _ _ c.retain.ensures.filtered
