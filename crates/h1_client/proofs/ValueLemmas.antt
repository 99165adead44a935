-- The values in a map of an answer's lines are those of the lines.
use Rattle.std.proofs.Common.{◌≡◌, ◌≢◌, ℕ, ◌-◌, Bool, true, false, if◌then◌else◌, List, [], ◌∷◌, ◌++◌, map, filter, fold, bytes_eq, length, Option, Some, None, refl, sym, ap, ◌∙◌, subst, append_assoc, arith}
use Rattle.std.specs.Prelude.{option_map, slice_get}
use Rattle.std.specs.List.{last_or, AllByRecursion}
use Rattle.std.proofs.lemmas.List.{map-append, append-nil}
use Rattle.httparse.specs.Grammar.{Field, trim_ows}
use Rattle.http_header.specs.FieldValue.{FieldValue, plain_value}
use Rattle.http_map.specs.HeaderMap.{Entries, append, get_all}
use Rattle.http_map.proofs.CallerLemmas.{same_bytes, bytes_eq-itself, get_all-append_same, get_all-append_other}
use Rattle.model_h1.specs.Request.{Header}
use Rattle.model_h1.specs.RequestHead.{header_of}
use Rattle.model_h1.specs.LengthTable.{values_of}
use Rattle.http_framing.specs.HeaderLines.{header_map}
use Rattle.h1_decoder.proofs.TrimLemmas.{trim_ows-again}

-- ---- a map's values

abbrev pub value_bytes : List FieldValue → List (List ℕ)
value_bytes values = map (λ v. v.bytes) values

-- a map with the lines after those that it has
abbrev pub with_lines : Entries → List Header → Entries
with_lines entries headers = fold (λ entries header. append entries header.name (plain_value header.value)) entries headers

-- one line more
one_line : (name : List ℕ) (entries : Entries) (h : Header) → (b : Bool) → bytes_eq h.name name ≡ b
    → value_bytes (get_all (append entries h.name (plain_value h.value)) name)
    ≡ value_bytes (get_all entries name) ++ map (λ (l : Header). l.value) (if b then h ∷ [] else [])
one_line name entries h true e =
    let same = same_bytes h.name name e in
    subst (λ (n : List ℕ). value_bytes (get_all (append entries n (plain_value h.value)) name) ≡ value_bytes (get_all entries name) ++ h.value ∷ []) (sym same)
    (ap value_bytes (get_all-append_same name (plain_value h.value) entries) ∙ map-append (λ (v : FieldValue). v.bytes) (get_all entries name) (plain_value h.value ∷ []))
one_line name entries h false e =
    let apart : name ≢ h.name = λ is.
    let same : bytes_eq h.name name ≡ true = subst (λ (n : List ℕ). bytes_eq h.name n ≡ true) (sym is) (bytes_eq-itself h.name) in
    cc in
    ap value_bytes (get_all-append_other h.name (plain_value h.value) name apart entries) ∙ sym (append-nil (value_bytes (get_all entries name)))

-- the values of the lines come after those that the map has
values_after : (name : List ℕ) (headers : List Header) (entries : Entries)
    → value_bytes (get_all (with_lines entries headers) name) ≡ value_bytes (get_all entries name) ++ values_of name headers
values_after name [] entries = sym (append-nil (value_bytes (get_all entries name)))
values_after name (h ∷ headers) entries =
    go (bytes_eq h.name name) refl (values_after name headers (append entries h.name (plain_value h.value)))
  where
    before : List (List ℕ)
    before = value_bytes (get_all entries name)

    after : List (List ℕ)
    after = value_bytes (get_all (append entries h.name (plain_value h.value)) name)

    go : (b : Bool) → bytes_eq h.name name ≡ b → value_bytes (get_all (with_lines entries (h ∷ headers)) name) ≡ after ++ values_of name headers
        → value_bytes (get_all (with_lines entries (h ∷ headers)) name) ≡ before ++ values_of name (h ∷ headers)
    go true e others =
        others ∙ ap (λ (vs : List (List ℕ)). vs ++ values_of name headers) (one_line name entries h true e)
        ∙ append_assoc before (h.value ∷ []) (values_of name headers)
        ∙ ap (λ (b : Bool). before ++ map (λ (l : Header). l.value) (if b then h ∷ filter (λ (l : Header). bytes_eq l.name name) headers else filter (λ (l : Header). bytes_eq l.name name) headers)) (sym e)
    go false e others =
        others ∙ ap (λ (vs : List (List ℕ)). vs ++ values_of name headers) (one_line name entries h false e)
        ∙ append_assoc before [] (values_of name headers)
        ∙ ap (λ (b : Bool). before ++ map (λ (l : Header). l.value) (if b then h ∷ filter (λ (l : Header). bytes_eq l.name name) headers else filter (λ (l : Header). bytes_eq l.name name) headers)) (sym e)

-- the values of a head's map
pub head_values : (name : List ℕ) (headers : List Header) → value_bytes (get_all (header_map headers) name) ≡ values_of name headers
head_values name headers = values_after name headers []

-- ---- the last one

-- the last of some values, after one that came before
last_after : (v : FieldValue) (vs : List FieldValue) → last_or (Some v.bytes) (value_bytes vs) ≡ option_map (λ (v : FieldValue). v.bytes) (slice_get (v ∷ vs) (length vs))
last_after v [] = refl
last_after v (w ∷ vs) = last_after w vs

pub last_value : (vs : List FieldValue) → last_or None (value_bytes vs) ≡ option_map (λ (v : FieldValue). v.bytes) (slice_get vs (length vs - 1))
last_value [] = refl
last_value (v ∷ vs) =
    let all : length (v ∷ vs) - 1 ≡ length vs = omega arith in
    last_after v vs ∙ ap (λ n. option_map (λ (v : FieldValue). v.bytes) (slice_get (v ∷ vs) n)) (sym all)

-- ---- values of a head that was read have no blanks at their ends

abbrev IsTrimmed : List ℕ → Type 0
IsTrimmed value = trim_ows value ≡ value

trimmed_values : (name : List ℕ) (fields : List Field) → AllByRecursion IsTrimmed (values_of name (map header_of fields))
trimmed_values name [] = tt
trimmed_values name (f ∷ fields) = go (bytes_eq (header_of f).name name) refl (trimmed_values name fields)
  where
    go : (b : Bool) → bytes_eq (header_of f).name name ≡ b → AllByRecursion IsTrimmed (values_of name (map header_of fields))
        → AllByRecursion IsTrimmed (values_of name (map header_of (f ∷ fields)))
    go true e rest = subst (λ (b : Bool). AllByRecursion IsTrimmed (map (λ (l : Header). l.value) (if b then header_of f ∷ filter (λ (l : Header). bytes_eq l.name name) (map header_of fields) else filter (λ (l : Header). bytes_eq l.name name) (map header_of fields)))) (sym e)
        (trim_ows-again f.raw, rest)
    go false e rest = subst (λ (b : Bool). AllByRecursion IsTrimmed (map (λ (l : Header). l.value) (if b then header_of f ∷ filter (λ (l : Header). bytes_eq l.name name) (map header_of fields) else filter (λ (l : Header). bytes_eq l.name name) (map header_of fields)))) (sym e)
        rest

last_trimmed : (o : Option (List ℕ)) (values : List (List ℕ)) (value : List ℕ) → ((v : List ℕ) → o ≡ Some v → IsTrimmed v)
    → AllByRecursion IsTrimmed values → last_or o values ≡ Some value → IsTrimmed value
last_trimmed o [] value before all is = before value is
last_trimmed o (v ∷ values) value before all is =
    last_trimmed (Some v) values value (λ w same. subst IsTrimmed (some_same v w same) all.0) all.1 is
  where
    some_same : (v w : List ℕ) → Some v ≡ Some w → v ≡ w
    some_same v w same = cc

pub trimmed_last : (name : List ℕ) (fields : List Field) (value : List ℕ) → last_or None (values_of name (map header_of fields)) ≡ Some value → trim_ows value ≡ value
trimmed_last name fields value is = last_trimmed None (values_of name (map header_of fields)) value (λ v none. absurd (cc none)) (trimmed_values name fields) is
