use Rattle.std.proofs.Common.{◌≡◌, ◌+◌}
use Rattle.http_map.specs.HeaderMap.{value_count}
use Rattle.http_map.proofs.map.edits.count_values.Given as goal

abbrev pub invariant-loop-values : goal.invariant-loop-values
invariant-loop-values l = record {
  can : (goal.iterator-loop-values).can_next l.values-iterator;
  ends : (goal.iterator-loop-values).is_finite l.values-iterator;
  counted : l.count + value_count l.values-iterator ≡ value_count l.names;
}
