use Rattle.std.proofs.Common.{arith}
use Rattle.http_map.proofs.CallerLemmas.{get_all-append_same, get_all-append_other}
use Rattle.http_map.proofs.MapLemmas.{value_count-append, entries-append}
use Rattle.http_map.proofs.map.HeaderMap.append.Goals as goal

pub invariant_of-self-2 : goal.invariant_of-self-2
invariant_of-self-2 c =
    let more = rw c.in_ok-len.ensures.ok_part at c.checked_add.ensures in
    rw c.in_ok-append.ensures.ok (record {
      count = omega (arith, more, c.self.invariant.count, value_count-append c.args.key c.args.value c.self.inside.names);
      fits = omega (arith, more);
      entries = entries-append c.args.key c.args.value c.as_bytes-valid.ensures.valid c.self.inside.names c.self.invariant.entries;
    })

pub returns-clause-values : goal.returns-clause-values
returns-clause-values c =
    rw (c.in_ok-append.ensures.ok, ← c.self.view_is) (get_all-append_same c.args.key c.args.value c.self.inside.names)

pub returns-clause-others : goal.returns-clause-others
returns-clause-others c other apart =
    rw (c.in_ok-append.ensures.ok, ← c.self.view_is) (get_all-append_other c.args.key c.args.value other apart c.self.inside.names)
