-- Lines one behind the other, read from the front.
use Rattle.std.proofs.Common.{◌≡◌, ◌+◌, ◌≤◌, ◌<◌, ◌∙◌, ℕ, List, [], ◌∷◌, ◌++◌, length, map, take, drop, ap, refl, sym, subst, arith, append_assoc, length-append, length-drop}
use Rattle.std.proofs.lemmas.List.{append-nil, take_at, drop_at, map_push, nil_from_length}
use Rattle.std.proofs.lemmas.List.Sums.{fold-append}
use Rattle.http_header.specs.FieldName.{IsFieldName}
use Rattle.http_header.specs.FieldValue.{IsFieldValue, plain_value}
use Rattle.http_header.specs.Token.{lowercase}
use Rattle.http_map.specs.HeaderMap.{Entries, append}
use Rattle.http_framing.specs.HeaderLines.{Line, IsLine, line_header, header_map}
use Rattle.model_h1.specs.Request.{Header}
use Rattle.raspcream.specs.Packed.{number_at, IsPair, Packs, no_line, one_line, IsFilled, AreNoLines}

-- ---- a pair

-- a text has one pair in front
pub only_pair : (text first second rest first' second' rest' : List ℕ) → IsPair text first second rest → IsPair text first' second' rest'
    → (first ≡ first') × (second ≡ second') × (rest ≡ rest')
only_pair text first second rest first' second' rest' p q =
    let whole : first ++ (second ++ rest) ≡ first' ++ (second' ++ rest') = sym p.parts ∙ q.parts in
    let long : length first' ≡ length first = q.first_len ∙ sym p.first_len in
    let deep : length second' ≡ length second = q.second_len ∙ sym p.second_len in
    let behind : second ++ rest ≡ second' ++ rest' =
    sym (drop_at first (second ++ rest) (length first) refl) ∙ ap (drop (length first)) whole ∙ drop_at first' (second' ++ rest') (length first) long in (
      sym (take_at first (second ++ rest) (length first) refl) ∙ ap (take (length first)) whole ∙ take_at first' (second' ++ rest') (length first) long,
      sym (take_at second rest (length second) refl) ∙ ap (take (length second)) behind ∙ take_at second' rest' (length second) deep,
      sym (drop_at second rest (length second) refl) ∙ ap (drop (length second)) behind ∙ drop_at second' rest' (length second) deep,
    )

-- a text below eight bytes has none
pub none_short : (text : List ℕ) → length text < 8 → (first second rest : List ℕ) → IsPair text first second rest → ⊥
none_short text below first second rest p = absurd (omega (arith, p.lengths))

-- what follows the lengths has the first part, and behind it the second
pub fits_first : (text first second rest : List ℕ) → IsPair text first second rest → length first ≤ length (drop 8 text)
fits_first text first second rest p = omega (arith, ap length p.parts, length-append first (second ++ rest))

pub fits_second : (text first second rest : List ℕ) → IsPair text first second rest → length first + length second ≤ length (drop 8 text)
fits_second text first second rest p = omega (arith, ap length p.parts, length-append first (second ++ rest), length-append second rest)

-- what follows a pair is shorter
pub shrinks : (text first second rest : List ℕ) → IsPair text first second rest → length rest < length text
shrinks text first second rest p =
    omega (arith, p.lengths, ap length p.parts, length-drop 8 text, length-append first (second ++ rest), length-append second rest)

pub none_first : (text parts : List ℕ) → parts ≡ drop 8 text → length parts < number_at text 0 → (first second rest : List ℕ) → IsPair text first second rest → ⊥
none_first text parts are above first second rest p = omega (arith, ap length are, fits_first text first second rest p, p.first_len, above)

pub none_second : (text parts : List ℕ) → length parts + number_at text 0 ≡ length (drop 8 text) → length parts < number_at text 4 → (first second rest : List ℕ)
    → IsPair text first second rest → ⊥
none_second text parts are above first second rest p = omega (arith, are, fits_second text first second rest p, p.first_len, p.second_len, above)

-- ---- lines

-- the first line is the pair in front
pub first_line : {text : List ℕ} {lines : List Line} → Packs text lines → (name value rest : List ℕ) → IsPair text name value rest
    → IsFieldName name × IsFieldValue value × ((others : List Line) × Packs rest others)
first_line no_line name value rest pair = absurd (omega (arith, pair.lengths))
first_line (one_line text behind line lines own valid others) name value rest pair =
    let same = only_pair text line.0 line.1 behind name value rest own pair in
    (subst IsFieldName same.0 valid.0, subst IsFieldValue same.1 valid.1, (lines, subst (λ (t : List ℕ). Packs t lines) same.2 others))

no_pair : {text : List ℕ} {lines : List Line} → Packs text lines → 0 < length text → ((first second rest : List ℕ) → IsPair text first second rest → ⊥) → ⊥
no_pair no_line some none = absurd (omega (arith, some))
no_pair (one_line text behind line lines own valid others) some none = none line.0 line.1 behind own

-- one more line in the map
put_more : (lines : List Line) (line : Line) → header_map (map line_header (lines ++ line ∷ [])) ≡ append (header_map (map line_header lines)) (lowercase line.0) (plain_value line.1)
put_more lines line =
    ap header_map (map_push line_header lines line)
    ∙ fold-append (λ (entries : Entries) (header : Header). append entries header.name (plain_value header.value)) [] (map line_header lines) (line_header line ∷ [])

-- ---- read from the front

-- so many lines were read that the map has them, and the text is lines exactly where the rest is
pub record HasReadTo (text rest : List ℕ) (entries : Entries) : Type 0 where
  pub front : List Line
  pub in_map : entries ≡ header_map (map line_header front)
  pub so_far : (others : List Line) → Packs rest others → Packs text (front ++ others)
  pub only : (lines : List Line) → Packs text lines → (others : List Line) × Packs rest others

pub nothing_read : (text : List ℕ) (entries : Entries) → entries ≡ [] → HasReadTo text text entries
nothing_read text entries empty = record { front = []; in_map = empty; so_far = λ others packs. packs; only = λ lines packs. (lines, packs) }

pub line_read : (text rest name value behind : List ℕ) (before after : Entries) → HasReadTo text rest before → IsPair rest name value behind → IsFieldName name → IsFieldValue value
    → after ≡ append before (lowercase name) (plain_value value) → HasReadTo text behind after
line_read text rest name value behind before after read pair named valued put = record {
  front = read.front ++ (name, value) ∷ [];
  in_map = put ∙ ap (λ (m : Entries). append m (lowercase name) (plain_value value)) read.in_map ∙ sym (put_more read.front (name, value));
  so_far = λ others packs.
      subst (λ (l : List Line). Packs text l) (sym (append_assoc read.front ((name, value) ∷ []) others))
      (read.so_far ((name, value) ∷ others) (one_line rest behind (name, value) others pair (named, valued) packs));
  only = λ lines packs. let left = read.only lines packs in let line = first_line left.1 name value behind pair in line.2;
}

pub all_read : (text rest : List ℕ) (entries : Entries) → HasReadTo text rest entries → length rest ≡ 0 → IsFilled text entries
all_read text rest entries read empty = (
  read.front,
  subst (λ (l : List Line). Packs text l) (append-nil read.front) (read.so_far [] (subst (λ (t : List ℕ). Packs t []) (sym (nil_from_length rest empty)) no_line)),
  read.in_map,
)

pub stuck : (text rest : List ℕ) (entries : Entries) → HasReadTo text rest entries → 0 < length rest → ((first second behind : List ℕ) → IsPair rest first second behind → ⊥) → AreNoLines text
stuck text rest entries read some none = λ lines packs. no_pair (read.only lines packs).1 some none

pub wrong_line : (text rest name value behind : List ℕ) (entries : Entries) → HasReadTo text rest entries → IsPair rest name value behind → (IsFieldName name → IsFieldValue value → ⊥) → AreNoLines text
wrong_line text rest name value behind entries read pair wrong =
    λ lines packs. let line = first_line (read.only lines packs).1 name value behind pair in wrong line.0 line.1
