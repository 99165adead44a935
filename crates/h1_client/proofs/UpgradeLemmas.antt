-- A map has a line of a name where it has a value for it.
use Rattle.std.proofs.Common.{◌≡◌, ℕ, ◌<◌, Bool, true, false, not, List, [], ◌∷◌, ◌++◌, length, map, filter, bytes_eq, if◌then◌else◌, refl, sym, ap, ◌∙◌, subst, arith}
use Rattle.std.specs.Prelude.{◌==◌, flat_map}
use Rattle.std.proofs.lemmas.Bool.{ne_eqb}
use Rattle.http_header.specs.FieldValue.{FieldValue}
use Rattle.http_map.specs.HeaderMap.{Entries, get_all, IsHeaderMap}
use Rattle.http_map.proofs.CallerLemmas.{same_bytes, bytes_eq-itself}
use Rattle.model_h1.specs.Request.{Header}
use Rattle.model_h1.specs.LengthTable.{values_of, is_there}
use Rattle.h1_encoder.specs.Meaning.{headers_of, lines_of}
use Rattle.h1_encoder.proofs.ByName.{AreFilled, all_filled}

-- the lines of another name add nothing
other_values : (name key : List ℕ) (values : List FieldValue) (rest : List Header) → bytes_eq key name ≡ false
    → values_of name (lines_of (key, values) ++ rest) ≡ values_of name rest
other_values name key [] rest apart = refl
other_values name key (v ∷ values) rest apart =
    let line : Header = record { name = key; value = v.bytes } in
    let more = filter (λ (h : Header). bytes_eq h.name name) (lines_of (key, values) ++ rest) in
    ap (λ (b : Bool). map (λ (h : Header). h.value) (if b then line ∷ more else more)) apart ∙ other_values name key values rest apart

not_below : 0 < 0 → ⊥
not_below some = omega (arith, some)

-- some of this name are a line
own_values : (name key : List ℕ) (values : List FieldValue) (rest : List Header) → bytes_eq key name ≡ true → 0 < length values
    → is_there (values_of name (lines_of (key, values) ++ rest)) ≡ true
own_values name key [] rest same some = absurd (not_below some)
own_values name key (v ∷ values) rest same some =
    let line : Header = record { name = key; value = v.bytes } in
    let more = filter (λ (h : Header). bytes_eq h.name name) (lines_of (key, values) ++ rest) in
    ap (λ (b : Bool). is_there (map (λ (h : Header). h.value) (if b then line ∷ more else more))) same

-- names are compared both ways alike
turned : (a b : List ℕ) (t : Bool) → bytes_eq a b ≡ t → bytes_eq b a ≡ t
turned a b true e = subst (λ (n : List ℕ). bytes_eq n a ≡ true) (same_bytes a b e) (bytes_eq-itself a)
turned a b false e = go (bytes_eq b a) refl
  where
    go : (t : Bool) → bytes_eq b a ≡ t → t ≡ false
    go true is = sym (subst (λ (n : List ℕ). bytes_eq a n ≡ true) (sym (same_bytes b a is)) (bytes_eq-itself a)) ∙ e
    go false is = refl

some_is : (n : ℕ) → 0 < n → true ≡ not (n == 0)
some_is n some = sym (ap (λ (b : Bool). not b) (ne_eqb n 0 (λ e. omega (arith, e, some))))

lines_by : (name : List ℕ) (m : Entries) → AreFilled m → is_there (values_of name (headers_of m)) ≡ not (length (get_all m name) == 0)
lines_by name [] filled = refl
lines_by name (e ∷ m) filled = go (lines_by name m filled.1) (bytes_eq name e.0) refl
  where
    go : is_there (values_of name (headers_of m)) ≡ not (length (get_all m name) == 0)
        → (b : Bool) → bytes_eq name e.0 ≡ b → is_there (values_of name (headers_of (e ∷ m))) ≡ not (length (get_all (e ∷ m) name) == 0)
    go behind true is =
        own_values name e.0 e.1 (headers_of m) (turned name e.0 true is) filled.0 ∙ some_is (length e.1) filled.0
        ∙ sym (ap (λ (b : Bool). not (length (if b then e.1 else get_all m name) == 0)) is)
    go behind false is =
        ap is_there (other_values name e.0 e.1 (headers_of m) (turned name e.0 false is)) ∙ behind
        ∙ sym (ap (λ (b : Bool). not (length (if b then e.1 else get_all m name) == 0)) is)

pub lines_there : (name : List ℕ) (m : Entries) → IsHeaderMap m → is_there (values_of name (headers_of m)) ≡ not (length (get_all m name) == 0)
lines_there name m valid = lines_by name m (all_filled m valid.entries)

pub upgrade_of : (name : List ℕ) (m : Entries) (rest slice : List FieldValue) (empty : Bool) → IsHeaderMap m → rest ≡ get_all m name → slice ≡ rest
    → empty ≡ (length slice == 0) → not empty ≡ is_there (values_of name (headers_of m))
upgrade_of name m rest slice empty valid rest_is slice_is empty_is =
    ap (λ (b : Bool). not b) (empty_is ∙ ap (λ (l : List FieldValue). length l == 0) (slice_is ∙ rest_is)) ∙ sym (lines_there name m valid)
