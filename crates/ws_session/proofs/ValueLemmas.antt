-- The values in a map of a head's lines are those of the lines.
use Rattle.std.proofs.Common.{◌≡◌, ◌≢◌, ℕ, Bool, true, false, if◌then◌else◌, List, [], ◌∷◌, ◌++◌, map, filter, fold, bytes_eq, refl, sym, ap, ◌∙◌, subst, append_assoc}
use Rattle.std.proofs.lemmas.List.{map-append, append-nil}
use Rattle.http_header.specs.FieldValue.{FieldValue, plain_value}
use Rattle.http_map.specs.HeaderMap.{Entries, append, get_all}
use Rattle.http_map.proofs.CallerLemmas.{same_bytes, bytes_eq-itself, get_all-append_same, get_all-append_other}
use Rattle.model_h1.specs.Request.{Header}
use Rattle.model_h1.specs.LengthTable.{values_of}
use Rattle.http_framing.specs.HeaderLines.{header_map}
use Rattle.ws_session.specs.Upgrade.{value_bytes}

-- a map with the lines behind those that it has
abbrev pub with_lines : Entries → List Header → Entries
with_lines entries headers = fold (λ entries header. append entries header.name (plain_value header.value)) entries headers

-- one line more
one_line : (name : List ℕ) (entries : Entries) (h : Header) → (b : Bool) → bytes_eq h.name name ≡ b
    → value_bytes (get_all (append entries h.name (plain_value h.value)) name)
    ≡ value_bytes (get_all entries name) ++ map (λ (l : Header). l.value) (if b then h ∷ [] else [])
one_line name entries h true e =
    let same = same_bytes h.name name e in
    subst (λ (n : List ℕ). value_bytes (get_all (append entries n (plain_value h.value)) name) ≡ value_bytes (get_all entries name) ++ h.value ∷ []) (sym same)
    (ap value_bytes (get_all-append_same name (plain_value h.value) entries) ∙ map-append (λ (v : FieldValue). v.bytes) (get_all entries name) (plain_value h.value ∷ []))
one_line name entries h false e =
    let apart : name ≢ h.name = λ is.
    let same : bytes_eq h.name name ≡ true = subst (λ (n : List ℕ). bytes_eq h.name n ≡ true) (sym is) (bytes_eq-itself h.name) in
    cc in
    ap value_bytes (get_all-append_other h.name (plain_value h.value) name apart entries) ∙ sym (append-nil (value_bytes (get_all entries name)))

-- the values of the lines come behind those that the map has
pub values_behind : (name : List ℕ) (headers : List Header) (entries : Entries)
    → value_bytes (get_all (with_lines entries headers) name) ≡ value_bytes (get_all entries name) ++ values_of name headers
values_behind name [] entries = sym (append-nil (value_bytes (get_all entries name)))
values_behind name (h ∷ headers) entries =
    go (bytes_eq h.name name) refl (values_behind name headers (append entries h.name (plain_value h.value)))
  where
    before : List (List ℕ)
    before = value_bytes (get_all entries name)

    after : List (List ℕ)
    after = value_bytes (get_all (append entries h.name (plain_value h.value)) name)

    go : (b : Bool) → bytes_eq h.name name ≡ b → value_bytes (get_all (with_lines entries (h ∷ headers)) name) ≡ after ++ values_of name headers
        → value_bytes (get_all (with_lines entries (h ∷ headers)) name) ≡ before ++ values_of name (h ∷ headers)
    go true e others =
        others ∙ ap (λ (vs : List (List ℕ)). vs ++ values_of name headers) (one_line name entries h true e)
        ∙ append_assoc before (h.value ∷ []) (values_of name headers)
        ∙ ap (λ (b : Bool). before ++ map (λ (l : Header). l.value) (if b then h ∷ filter (λ (l : Header). bytes_eq l.name name) headers else filter (λ (l : Header). bytes_eq l.name name) headers)) (sym e)
    go false e others =
        others ∙ ap (λ (vs : List (List ℕ)). vs ++ values_of name headers) (one_line name entries h false e)
        ∙ append_assoc before [] (values_of name headers)
        ∙ ap (λ (b : Bool). before ++ map (λ (l : Header). l.value) (if b then h ∷ filter (λ (l : Header). bytes_eq l.name name) headers else filter (λ (l : Header). bytes_eq l.name name) headers)) (sym e)

-- the values of a head's map
pub head_values : (name : List ℕ) (headers : List Header) → value_bytes (get_all (header_map headers) name) ≡ values_of name headers
head_values name headers = values_behind name headers []
