use Rattle.http_header.specs.Token.{lowercase}
use Rattle.http_map.proofs.DistinctLemmas.{get_all-removed}
use Rattle.http_map.proofs.SeenLemmas.{IsFew-remove}
use Rattle.http_map.proofs.table.Names.remove.Goals as goal
use Rattle.http_map.proofs.table.Names.remove.Goals.{in-Few, in-Many}

pub invariant_of-self : goal.invariant_of-self
invariant_of-self c =
    elim c.match-self.branch [
      | in-Few w ↦ rw (w.self-inside-is, w.remove_values.ensures.after) (IsFew-remove _ (lowercase c.args.bytes.now) w.in-Few.lines.items (rw w.in-Few.is at c.self.invariant))
      | in-Many w ↦ rw w.self-inside-is tt
    ]

pub returns-clause-gone : goal.returns-clause-gone
returns-clause-gone c =
    elim c.match-self.branch [
      | in-Few w ↦
          (let before = rw w.in-Few.is at c.self.invariant in
          rw (w.self-inside-is, w.remove_values.ensures.after) (get_all-removed (lowercase c.args.bytes.now) w.in-Few.lines.items before.distinct))
      | in-Many w ↦ rw w.self-inside-is w.remove_values-in-Many.ensures.gone
    ]
