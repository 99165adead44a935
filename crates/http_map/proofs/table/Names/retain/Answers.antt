use Rattle.http_map.specs.Retain.{MayAnswer}
use Rattle.http_map.specs.contracts.table.Names.retain.F-Fn.{words}
use Rattle.http_map.proofs.SeenLemmas.{IsFew-Retains}
use Rattle.http_map.proofs.table.Names.retain.Goals as goal
use Rattle.http_map.proofs.table.Names.retain.Goals.{in-Few, in-Many}

pub invariant_of-self : goal.invariant_of-self
invariant_of-self g c =
    elim c.match-self.branch [
      | in-Few w ↦ rw w.self-inside-is (IsFew-Retains _ (MayAnswer ((words g.row.F g.F.Fn).post c.args.keep.now)) w.in-Few.lines.items w.retain_names.new.lines.items w.retain_names.ensures (rw w.in-Few.is at c.self.invariant))
      | in-Many w ↦ rw w.self-inside-is tt
    ]
