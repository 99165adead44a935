use Rattle.std.proofs.Common.{length, refl, ap, arith}
use Rattle.http_map.proofs.CallerLemmas.{get_all-insert_same, get_all-insert_other}
use Rattle.http_map.proofs.MapLemmas.{value_count-insert, value_count-remove, entries-insert}
use Rattle.http_map.proofs.map.HeaderMap.insert.Goals as goal

pub overflow_sub-self : goal.overflow_sub-self
overflow_sub-self c =
    let gone = ap length c.in_ok-removed.ensures.removed in
    omega (arith, gone, c.len.ensures, c.self.invariant.count, value_count-remove c.args.name c.self.inside.names)

pub overflow_add-self : goal.overflow_add-self
overflow_add-self c =
    let gone = ap length c.in_ok-removed.ensures.removed in
    let room = rw (← c.self.view_is) at (c.if-not-can_count_one_in.ensures.fits refl) in
    omega (arith, gone, room, c.len.ensures.value, c.self.invariant.count)

pub invariant_of-self-2 : goal.invariant_of-self-2
invariant_of-self-2 c =
    let gone = ap length c.in_ok-removed.ensures.removed in
    let room = rw (← c.self.view_is) at (c.if-not-can_count_one_in.ensures.fits refl) in
    rw c.in_ok-removed.ensures.ok (record {
      count = omega (arith, gone, c.len.ensures, c.self.invariant.count, value_count-insert c.args.name c.args.val c.self.inside.names, value_count-remove c.args.name c.self.inside.names);
      fits = omega (arith, gone, room, c.len.ensures.value, c.self.invariant.count);
      entries = entries-insert c.args.name c.args.val c.as_bytes-valid.ensures.valid c.self.inside.names c.self.invariant.entries;
    })

pub returns-clause-values : goal.returns-clause-values
returns-clause-values c =
    rw c.in_ok-removed.ensures.ok (get_all-insert_same c.args.name c.args.val c.self.inside.names)

pub returns-clause-others : goal.returns-clause-others
returns-clause-others c other apart =
    rw (c.in_ok-removed.ensures.ok, ← c.self.view_is) (get_all-insert_other c.args.name c.args.val other apart c.self.inside.names)
