use Rattle.std.proofs.Common.{◌≡◌, ◌∙◌, None, subst}
use Rattle.http_header.specs.FieldName.{IsFieldName}
use Rattle.http_map.specs.HeaderMap.{get}
use Rattle.http_map.proofs.CallerLemmas.{get-no_name, IsNone-option_copied}
use Rattle.http_map.proofs.EntryLemmas.{get_all-lookup}
use Rattle.http_map.proofs.map.HeaderMap.get.Goals as goal

pub returns-in_err-values-clause-value : goal.returns-in_err-values-clause-value
returns-in_err-values-clause-value g c =
    rw (← c.self.view_is, ← c.as_name_bytes.ensures.lowered, get_all-lookup, ← c.get.ensures.value, c.in_err-values.was, c.from_residual.ensures)

pub returns-clause-value : goal.returns-clause-value
returns-clause-value g c =
    rw (← c.self.view_is, ← c.as_name_bytes.ensures.lowered, get_all-lookup, ← c.in_ok-values.ensures.value, c.first.ensures.value, c.as_slice.ensures.value)

pub returns-clause-no_name : goal.returns-clause-no_name
returns-clause-no_name g c none =
    let nothing : get c.args.self.now (g.K.AsHeaderName.name c.args.key) ≡ None =
    rw (← c.self.view_is, ← c.as_name_bytes.ensures.lowered) (get-no_name c.self.inside.names c.as_name_bytes.result.now c.self.invariant.entries (λ is. none (subst IsFieldName c.as_name_bytes.ensures.value is))) in
    IsNone-option_copied c.first.result (returns-clause-value g c ∙ nothing)
