use Rattle.std.proofs.Common.{ℕ, List, ◌∷◌, subst, sym, refl}
use Rattle.http_values.specs.declared.shared.mime.Class.TheVariants.{Token}
use Rattle.http_values.specs.MediaTypeCuts.{IsEssenceCut}
use Rattle.http_values.proofs.MimeLemmas.{run_ascii}
use Rattle.http_values.proofs.MediaTypeLemmas.{uncut_is_none, no_parameters_is_none, some_mime, kept_mime}
use Rattle.http_values.proofs.shared.mime.MimeFromText.from_text.Goals as goal

pub returns-in_default-clause-invalid : goal.returns-in_default-clause-invalid
returns-in_default-clause-invalid c = (
  λ _ h.
      uncut_is_none c.args.s.now
      (λ kind subtype rest cut. let P : List ℕ → Type 0 = λ t. IsEssenceCut t kind subtype rest in c.in_default.ensures kind subtype rest (subst P (sym c.as_bytes.ensures.value) cut))
      h,
  λ _. refl,
)

pub owned-requires : goal.owned-requires
owned-requires c =
    let h = c.in-Some.ensures in record { ascii = run_ascii Token c.as_bytes.result.now c.in-Some.kind.now (47 ∷ h.behind) h.kind_is.run }

pub owned-requires-2 : goal.owned-requires-2
owned-requires-2 c =
    let h = c.in-Some.ensures in record { ascii = run_ascii Token h.behind c.in-Some.subtype.now c.in-Some.rest.now h.subtype_is.run }

pub returns-in-Err-clause-invalid : goal.returns-in-Err-clause-invalid
returns-in-Err-clause-invalid c = (
  λ bad h.
      let P : List ℕ → Type 0 = λ t. IsEssenceCut t c.in-Some.kind.now c.in-Some.subtype.now c.in-Some.rest.now in
      no_parameters_is_none c.args.s.now c.in-Some.kind.now c.in-Some.subtype.now c.in-Some.rest.now (subst P c.as_bytes.ensures.value c.in-Some.ensures)
      (c.in-Err.ensures.invalid.0 (cc bad)) h,
  λ none.
      let bad = c.in-Err.ensures.invalid.1 (λ params.
      none (some_mime c.args.s.now c.as_bytes.result.now c.in-Some.kind.now c.in-Some.subtype.now c.in-Some.rest.now c.as_bytes.ensures.value c.in-Some.ensures params)) in cc (bad),
)

pub returns-in_default-owned-clause-invalid : goal.returns-in_default-owned-clause-invalid
returns-in_default-owned-clause-invalid c = (
  λ bad _. cc (bad),
  λ none. absurd (none (some_mime c.args.s.now c.as_bytes.result.now c.in-Some.kind.now c.in-Some.subtype.now c.in-Some.rest.now c.as_bytes.ensures.value c.in-Some.ensures (_, c.in-Ok.ensures.ok))),
)

pub returns-in_default-owned-2-clause-invalid : goal.returns-in_default-owned-2-clause-invalid
returns-in_default-owned-2-clause-invalid c = (
  λ bad _. cc (bad),
  λ none. absurd (none (some_mime c.args.s.now c.as_bytes.result.now c.in-Some.kind.now c.in-Some.subtype.now c.in-Some.rest.now c.as_bytes.ensures.value c.in-Some.ensures (_, c.in-Ok.ensures.ok))),
)

pub returns-in_default-from_str-clause-invalid : goal.returns-in_default-from_str-clause-invalid
returns-in_default-from_str-clause-invalid c = (
  λ bad _. cc (bad),
  λ none. absurd (none (some_mime c.args.s.now c.as_bytes.result.now c.in-Some.kind.now c.in-Some.subtype.now c.in-Some.rest.now c.as_bytes.ensures.value c.in-Some.ensures (_, c.in-Ok.ensures.ok))),
)

pub returns-clause-ok : goal.returns-clause-ok
returns-clause-ok c = record {
  kept = c.in-Ok-from_str.ensures.ok;
  says = kept_mime c.args.s.now c.as_bytes.result.now c.in-Some.kind.now c.in-Some.subtype.now c.in-Some.rest.now _ _ _ c.as_bytes.ensures.value c.in-Some.ensures
      c.in-Ok.ensures.ok c.in-Ok-owned.ensures.ok c.in-Ok-owned-2.ensures.ok;
}

pub returns-clause-readable : goal.returns-clause-readable
returns-clause-readable c = some_mime c.args.s.now c.as_bytes.result.now c.in-Some.kind.now c.in-Some.subtype.now c.in-Some.rest.now c.as_bytes.ensures.value c.in-Some.ensures (_, c.in-Ok.ensures.ok)

pub returns-clause-invalid : goal.returns-clause-invalid
returns-clause-invalid c = (
  λ bad _. cc (bad),
  λ none. absurd (none (some_mime c.args.s.now c.as_bytes.result.now c.in-Some.kind.now c.in-Some.subtype.now c.in-Some.rest.now c.as_bytes.ensures.value c.in-Some.ensures (_, c.in-Ok.ensures.ok))),
)
