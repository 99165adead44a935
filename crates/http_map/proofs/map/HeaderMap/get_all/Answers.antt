use Rattle.std.proofs.Common.{◌∙◌, subst}
use Rattle.http_header.specs.FieldName.{IsFieldName}
use Rattle.http_map.proofs.CallerLemmas.{get_all-no_name}
use Rattle.http_map.proofs.EntryLemmas.{get_all-lookup}
use Rattle.http_map.proofs.map.HeaderMap.get_all.Goals as goal
use Rattle.http_map.proofs.map.HeaderMap.get_all.Goals.{in-Some, in-None}

pub returns-clause-values : goal.returns-clause-values
returns-clause-values g c =
    rw (← c.self.view_is, ← c.as_name_bytes.ensures.lowered, get_all-lookup, c.iter.ensures.rest)
    (elim c.match-found.branch [ in-Some w ↦ rw (w.values-is, w.as_slice-values.ensures.value, ← w.in-Some.ensures.value) | in-None w ↦ rw (w.values-is, ← w.in-None.ensures.value) ])

pub returns-clause-no_name : goal.returns-clause-no_name
returns-clause-no_name g c none =
    returns-clause-values g c ∙ rw (← c.self.view_is, ← c.as_name_bytes.ensures.lowered)
    (get_all-no_name c.self.inside.names c.as_name_bytes.result.now c.self.invariant.entries (λ is. none (subst IsFieldName c.as_name_bytes.ensures.value is)))
