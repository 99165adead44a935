use Rattle.std.proofs.Common.{◌≡◌, ◌∙◌, sym, refl, ap, subst, inl, Some, None, slice_get}
use Rattle.http_header.specs.FieldValue.{FieldValue}
use Rattle.http_header.specs.FieldName.{IsFieldName}
use Rattle.http_header.specs.Token.{lowercase}
use Rattle.http_map.specs.HeaderMap.{get, set_first}
use Rattle.http_map.specs.Lends.{set_first_at}
use Rattle.http_map.proofs.CallerLemmas.{get-no_name}
use Rattle.http_map.proofs.LineLemmas.{get_all-lacks}
use Rattle.http_map.proofs.LendsLemmas.{set_first-at, get_all-at}
use Rattle.http_map.proofs.map.HeaderMap.get_mut.Goals as goal

pub returns-in-Some : goal.returns-in-Some
returns-in-Some g c =
    let name = lowercase c.as_name_bytes.result.now in
    let m = c.self.inside.names in
    let writes : (w : FieldValue) → set_first_at c.args.self.now c.in-Some.index w ≡ set_first c.args.self.now (g.K.AsHeaderName.name c.args.key) w = λ w. rw (← c.self.view_is, ← c.as_name_bytes.ensures.lowered) (set_first-at name m c.in-Some.index w c.in-Some.ensures.found) in
    let value : Some c.first_mut_at.result.now ≡ get c.args.self.now (g.K.AsHeaderName.name c.args.key) =
    c.first_mut_at.ensures.value ∙ rw (← c.self.view_is, ← c.as_name_bytes.ensures.lowered) (ap (λ vs. slice_get vs 0) (sym (get_all-at name m c.in-Some.index c.in-Some.ensures.found))) in (
      λ k. inl (c.first_mut_at.result.ghost_name, λ w. writes w k),
      record {
        writes_back = tt;
        value = value;
        no_name = λ none.
            let nothing : get c.args.self.now (g.K.AsHeaderName.name c.args.key) ≡ None =
            rw (← c.self.view_is, ← c.as_name_bytes.ensures.lowered) (get-no_name m c.as_name_bytes.result.now c.self.invariant.entries (λ is. none (subst IsFieldName c.as_name_bytes.ensures.value is))) in
            let found : Some c.first_mut_at.result.now ≡ None = value ∙ nothing in
            cc;
      },
    )

pub returns : goal.returns
returns g c = (
  refl,
  record {
    writes_back = tt;
    value = rw (← c.self.view_is, ← c.as_name_bytes.ensures.lowered, get_all-lacks (lowercase c.as_name_bytes.result.now) c.self.inside.names c.in-None.ensures.lacks);
    no_name = λ none. refl;
  },
)
