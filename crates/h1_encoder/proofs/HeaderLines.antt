-- The header lines of an answer, of its map's pairs.
use Rattle.std.proofs.Common.{◌≡◌, ℕ, ◌<◌, length, arith, Bool, true, false, not, ◌&&◌, ◌||◌, cond, List, [], ◌∷◌, ◌++◌, map, refl, sym, ap, ◌∙◌, if◌then◌else◌, codes}
use Rattle.std.specs.Prelude.{bytes_eq, filter, flat_map, ◌==◌}
use Rattle.std.specs.List.{list_any}
use Rattle.std.proofs.Math.Bool.{or_assoc}
use Rattle.std.proofs.lemmas.List.{map-append}
use Rattle.std.proofs.lemmas.Slice.Eq.{bytes_eq-Decides}
use Rattle.std.proofs.lemmas.Bool.Decides.{same_from_decides, Decides-like}
use Rattle.http_header.specs.FieldValue.{FieldValue}
use Rattle.http_map.specs.HeaderMap.{Pair, Entries, entry_pairs, pairs, contains_key, value_count, IsHeaderMap}
use Rattle.model_h1.specs.Request.{Header}
use Rattle.model_h1.specs.Answer.{AnswerHead, Shape, is_raw, has_header}
use Rattle.model_h1.specs.AnswerText.{header_text, is_sent, by_name}
use Rattle.h1_encoder.specs.Meaning.{lines_of, headers_of}
use Rattle.h1_encoder.specs.WrittenLines.{line_of, goes_out, is_framing, pairs_text, has_date}
use Rattle.h1_encoder.proofs.ByName.{by_name-map, AreFilled}

-- the pairs of an entry are its lines
entry_lines : (name : List ℕ) (values : List FieldValue) → map line_of (entry_pairs (name, values)) ≡ lines_of (name, values)
entry_lines name [] = refl
entry_lines name (v ∷ values) = ap (λ (l : List Header). record { name = name; value = v.bytes } ∷ l) (entry_lines name values)

-- the pairs of a map are its lines
pub pairs_lines : (m : Entries) → map line_of (pairs m) ≡ headers_of m
pairs_lines [] = refl
pairs_lines (e ∷ m) =
    map-append line_of (entry_pairs e) (pairs m) ∙ (λ i. entry_lines e.0 e.1 i ++ pairs_lines m i)

-- a line goes out by its name
sent_by_name : (answer : AnswerHead) (shape : Shape) (h : Header)
    → is_sent answer shape h ≡ goes_out ((answer.status == 304) || (is_raw shape && not (answer.status == 101))) h.name
sent_by_name answer shape h =
    ap (λ (b : Bool). not (bytes_eq h.name (codes "connection")) && b)
    (or_assoc (not (is_framing h.name)) (answer.status == 304) (is_raw shape && not (answer.status == 101)))

sent_step : (b camel : Bool) (h : Header) (rest : List Header) (text : List ℕ) → flat_map (header_text camel) rest ≡ text
    → flat_map (header_text camel) (cond b (h ∷ rest) rest) ≡ (if b then header_text camel h else []) ++ text
sent_step true camel h rest text is = ap (λ (l : List ℕ). header_text camel h ++ l) is
sent_step false camel h rest text is = is

-- the lines of pairs
sent_pairs : (camel with_framing : Bool) (sent : Header → Bool) (same : (h : Header) → sent h ≡ goes_out with_framing h.name) (ps : List Pair)
    → flat_map (header_text camel) (filter sent (map line_of ps)) ≡ pairs_text camel with_framing ps
sent_pairs camel with_framing sent same [] = refl
sent_pairs camel with_framing sent same (p ∷ ps) =
    ap (λ (b : Bool). flat_map (header_text camel) (cond b (line_of p ∷ filter sent (map line_of ps)) (filter sent (map line_of ps)))) (same (line_of p))
    ∙ sent_step (goes_out with_framing p.0) camel (line_of p) (filter sent (map line_of ps)) (pairs_text camel with_framing ps)
    (sent_pairs camel with_framing sent same ps)

-- the lines of a map
pub sent_lines : (camel : Bool) (answer : AnswerHead) (shape : Shape) (m : Entries) → IsHeaderMap m → answer.headers ≡ headers_of m
    → flat_map (header_text camel) (filter (is_sent answer shape) (by_name answer.headers))
    ≡ pairs_text camel ((answer.status == 304) || (is_raw shape && not (answer.status == 101))) (pairs m)
sent_lines camel answer shape m is headers =
    ap (λ (l : List Header). flat_map (header_text camel) (filter (is_sent answer shape) l))
    (ap by_name headers ∙ by_name-map m is ∙ sym (pairs_lines m))
    ∙ sent_pairs camel ((answer.status == 304) || (is_raw shape && not (answer.status == 101))) (is_sent answer shape) (sent_by_name answer shape) (pairs m)

-- a header of a name among the lines of pairs
header_pairs : (name : List ℕ) (ps : List Pair) → has_header name (map line_of ps) ≡ list_any (λ p. bytes_eq p.0 name) ps
header_pairs name [] = refl
header_pairs name (p ∷ ps) = ap (λ (b : Bool). bytes_eq p.0 name || b) (header_pairs name ps)

pub date_lines : (m : Entries) → has_header (codes "date") (headers_of m) ≡ has_date (pairs m)
date_lines m = ap (λ (l : List Header). has_header (codes "date") l) (sym (pairs_lines m)) ∙ header_pairs (codes "date") (pairs m)

-- ---- a name that is there

-- texts are compared both ways alike
eq_sym : (a b : List ℕ) → bytes_eq a b ≡ bytes_eq b a
eq_sym a b = same_from_decides (bytes_eq a b) (bytes_eq b a) (bytes_eq-Decides a b) (Decides-like (bytes_eq b a) sym sym (bytes_eq-Decides b a))

twice : (a b : Bool) → (a || (a || b)) ≡ (a || b)
twice true b = refl
twice false b = refl

-- a filled entry has a line of its name
entry_named : (name key : List ℕ) (values : List FieldValue) (rest : List Header) → 0 < length values
    → has_header name (lines_of (key, values) ++ rest) ≡ (bytes_eq key name || has_header name rest)
entry_named name key [] rest filled = absurd (omega (arith, filled))
entry_named name key (v ∷ []) rest filled = refl
entry_named name key (v ∷ w ∷ values) rest filled =
    ap (λ (b : Bool). bytes_eq key name || b) (entry_named name key (w ∷ values) rest (omega arith))
    ∙ twice (bytes_eq key name) (has_header name rest)

-- the map has a name where one of its lines has
pub named_lines : (name : List ℕ) (m : Entries) → AreFilled m → has_header name (headers_of m) ≡ contains_key m name
named_lines name [] filled = refl
named_lines name (e ∷ m) filled =
    entry_named name e.0 e.1 (headers_of m) filled.0
    ∙ (λ i. eq_sym e.0 name i || named_lines name m filled.1 i)

-- a map without values is empty
pub no_values : (m : Entries) → AreFilled m → value_count m ≡ 0 → m ≡ []
no_values [] filled none = refl
no_values (e ∷ m) filled none = absurd (omega (arith, filled.0, none))
