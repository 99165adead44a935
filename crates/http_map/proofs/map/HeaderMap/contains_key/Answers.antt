use Rattle.std.proofs.Common.{◌∙◌, subst}
use Rattle.http_header.specs.FieldName.{IsFieldName}
use Rattle.http_map.proofs.CallerLemmas.{contains_key-no_name, contains_key-get}
use Rattle.http_map.proofs.map.HeaderMap.contains_key.Goals as goal

pub returns-clause-value : goal.returns-clause-value
returns-clause-value g c =
    rw (← c.self.view_is, ← c.as_name_bytes.ensures.lowered) c.contains.ensures

pub returns-clause-no_name : goal.returns-clause-no_name
returns-clause-no_name g c none =
    returns-clause-value g c ∙ rw (← c.self.view_is, ← c.as_name_bytes.ensures.lowered)
    (contains_key-no_name c.self.inside.names c.as_name_bytes.result.now c.self.invariant.entries (λ is. none (subst IsFieldName c.as_name_bytes.ensures.value is)))

pub returns-clause-found : goal.returns-clause-found
returns-clause-found g c =
    returns-clause-value g c ∙ rw (← c.self.view_is) (contains_key-get c.self.inside.names (g.K.AsHeaderName.name c.args.key) c.self.invariant.entries)
