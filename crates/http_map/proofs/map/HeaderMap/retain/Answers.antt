use Rattle.std.proofs.Common.{arith}
use Rattle.http_map.specs.Retain.{MayAnswer}
use Rattle.http_map.specs.contracts.map.HeaderMap.retain.F-Fn.{words}
use Rattle.http_map.proofs.RetainLemmas.{value_count-Retains, entries-Retains, retain-Retains}
use Rattle.http_map.proofs.map.HeaderMap.retain.Goals as goal

pub count_values-self-inside-requires : goal.count_values-self-inside-requires
count_values-self-inside-requires g c =
    let fewer = value_count-Retains (MayAnswer ((words g.row.F g.F.Fn).post c.args.keep)) c.self.inside.names c.retain.new.self c.retain.ensures in
    omega (arith, c.self.invariant.count, c.self.invariant.fits, fewer)

pub invariant_of-self : goal.invariant_of-self
invariant_of-self g c =
    let fewer = value_count-Retains (MayAnswer ((words g.row.F g.F.Fn).post c.args.keep)) c.self.inside.names c.retain.new.self c.retain.ensures in
    record {
      count = c.count_values-self-inside.ensures;
      fits = omega (arith, c.self.invariant.count, c.self.invariant.fits, fewer, c.count_values-self-inside.ensures);
      entries = entries-Retains (MayAnswer ((words g.row.F g.F.Fn).post c.args.keep)) c.self.inside.names c.retain.new.self c.self.invariant.entries c.retain.ensures;
    }

pub returns-clause-kept : goal.returns-clause-kept
returns-clause-kept g c = rw (← c.self.view_is) c.retain.ensures

pub returns-clause-computed : goal.returns-clause-computed
returns-clause-computed g c test computes =
    retain-Retains ((words g.row.F g.F.Fn).post c.args.keep) test computes c.args.self.now c.retain.new.self (returns-clause-kept g c)
