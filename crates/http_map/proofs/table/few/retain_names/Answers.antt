use Rattle.std.proofs.Common.{rules}
use Rattle.http_map.specs.Retain.{MayAnswer}
use Rattle.http_map.specs.contracts.table.few.retain_names.F-Fn.{words}
use Rattle.http_map.proofs.RetainLemmas.{Retains-RetainsInTurn}
use Rattle.http_map.proofs.table.few.retain_names.Goals as goal

pub returns : goal.returns
returns g c =
    Retains-RetainsInTurn _ (MayAnswer ((words g.row.F g.F.Fn).post c.args.keep.now)) _ (λ e b h w call. search rules) _ _ c.retain_mut.ensures.filtered
