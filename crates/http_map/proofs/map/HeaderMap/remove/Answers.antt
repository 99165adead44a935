use Rattle.std.proofs.Common.{◌≢◌, length, ap, subst, ◌∙◌, arith}
use Rattle.http_header.specs.Token.{lowercase}
use Rattle.http_header.specs.FieldName.{IsFieldName}
use Rattle.http_map.proofs.CallerLemmas.{get_all-remove_other, get_all-no_name, remove-no_name}
use Rattle.http_map.proofs.MapLemmas.{value_count-remove, entries-remove}
use Rattle.http_map.proofs.map.HeaderMap.remove.Goals as goal

pub overflow_sub-self : goal.overflow_sub-self
overflow_sub-self g c =
    let gone = ap length c.remove-removed.ensures.removed in
    omega (arith, gone, c.len.ensures, c.self.invariant.count, value_count-remove (lowercase c.as_name_bytes.result.now) c.self.inside.names)

pub invariant_of-self : goal.invariant_of-self
invariant_of-self g c =
    let gone = ap length c.remove-removed.ensures.removed in
    rw c.remove-removed.ensures.after (record {
      count = omega (arith, gone, c.len.ensures, c.self.invariant.count, value_count-remove (lowercase c.as_name_bytes.result.now) c.self.inside.names);
      fits = omega (arith, c.self.invariant.fits);
      entries = entries-remove (lowercase c.as_name_bytes.result.now) c.self.inside.names c.self.invariant.entries;
    })

pub returns-clause-others : goal.returns-clause-others
returns-clause-others g c other apart =
    let bytes = c.as_name_bytes.result.now in
    let away : other ≢ lowercase bytes = λ is. apart (is ∙ c.as_name_bytes.ensures.lowered) in
    rw (c.remove-removed.ensures.after, ← c.self.view_is) (get_all-remove_other (lowercase bytes) other away c.self.inside.names)

pub returns-clause-no_name : goal.returns-clause-no_name
returns-clause-no_name g c none =
    let text = c.as_name_bytes.result.now in
    let no_name : IsFieldName text → ⊥ = λ is. none (subst IsFieldName c.as_name_bytes.ensures.value is) in (
      c.remove-removed.ensures.removed ∙ get_all-no_name c.self.inside.names text c.self.invariant.entries no_name,
      c.remove-removed.ensures.after ∙ remove-no_name c.self.inside.names text c.self.invariant.entries no_name ∙ c.self.view_is,
    )
