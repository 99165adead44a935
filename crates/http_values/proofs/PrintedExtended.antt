-- An extended value is read from what it prints.
use Rattle.std.proofs.Common.{◌≡◌, ◌≢◌, ℕ, ◌<◌, zero, suc, List, [], ◌∷◌, ◌++◌, Option, Some, None, refl, sym, ap, subst, arith, ◌∙◌, append_assoc}
use Rattle.std.specs.Prelude.{All, map, string_bytes}
use Rattle.std.specs.Char.{to_ascii_uppercase, to_ascii_lowercase}
use Rattle.std.proofs.lemmas.Bool.Decides.{nat_tests}
use Rattle.std.proofs.lemmas.Str.Ascii.{uppercase-uppercase}
use Rattle.percent_encoding.specs.Percent.{percent_encode}
use Rattle.percent_encoding.proofs.PercentLemmas.{round_trip}
use Rattle.http_values.specs.declared.utils.TheConstants.{HTTP_VALUE}
use Rattle.http_values.specs.declared.shared.charset.Charset.{Charset}
use Rattle.http_values.specs.declared.shared.charset.Charset.TheVariants.{Ext}
use Rattle.http_values.specs.declared.shared.language_tag.LanguageTag.{LanguageTag}
use Rattle.http_values.specs.declared.shared.extended.ExtendedValue.{ExtendedValue}
use Rattle.http_values.specs.Charset.{IsNoneOf, latin_labels, asian_labels, other_labels, IsCharsetText, charset_text}
use Rattle.http_values.specs.ExtendedText.{HasNoQuote, IsCutInThree}
use Rattle.http_values.specs.ExtendedValue.{IsTagPart, SaysExtended, tag_part_text}
use Rattle.http_values.specs.Printed.{extended_text}
use Rattle.http_values.proofs.CharsetLemmas.{keeps_its_label}
use Rattle.http_values.proofs.ExtendedLemmas.{no_quote_behind}

-- a text without a quote has none behind a byte that is no quote
no_quote_cons : (b : ℕ) (text : List ℕ) → b ≢ 39 → HasNoQuote text → HasNoQuote (b ∷ text)
no_quote_cons b text first rest zero inside = first
no_quote_cons b text first rest (suc i) inside = rest i (omega (arith, inside))

lowered_is_no_quote : (b : ℕ) → b ≢ 39 → to_ascii_lowercase b ≢ 39
lowered_is_no_quote b h e = h (grind (arith, nat_tests))

-- the case of letters makes no quote, and hides none
lowered_has_none : (text : List ℕ) → HasNoQuote text → HasNoQuote (map to_ascii_lowercase text)
lowered_has_none [] h = λ i inside. absurd (omega (arith, inside))
lowered_has_none (b ∷ text) h =
    no_quote_cons (to_ascii_lowercase b) (map to_ascii_lowercase text) (lowered_is_no_quote b (h 0 (omega arith)))
    (lowered_has_none text (no_quote_behind b text h))

none_from_lowered : (text : List ℕ) → HasNoQuote (map to_ascii_lowercase text) → HasNoQuote text
none_from_lowered [] h = λ i inside. absurd (omega (arith, inside))
none_from_lowered (b ∷ text) h =
    no_quote_cons b text (λ e. h 0 (omega arith) (ap to_ascii_lowercase e))
    (none_from_lowered text (no_quote_behind (to_ascii_lowercase b) (map to_ascii_lowercase text) h))

label_has_none : (text : List ℕ) (set : Charset) → HasNoQuote text → IsCharsetText text set → HasNoQuote (charset_text set)
label_has_none text set none h =
    let P : List ℕ → Type 0 = λ t. HasNoQuote t in
    none_from_lowered (charset_text set) (subst P (keeps_its_label text set h) (lowered_has_none text none))

-- raising letters twice is raising them once
raised_twice : (text : List ℕ) → map to_ascii_uppercase (map to_ascii_uppercase text) ≡ map to_ascii_uppercase text
raised_twice [] = refl
raised_twice (b ∷ text) = let first = uppercase-uppercase b in let rest = raised_twice text in cc (first, rest)

-- two texts that differ in case alone are none of the same labels
none_of_same : (a b : List ℕ) (labels : List (List ℕ)) → map to_ascii_lowercase a ≡ map to_ascii_lowercase b → IsNoneOf a labels → IsNoneOf b labels
none_of_same a b [] e h = tt
none_of_same a b (label ∷ labels) e h = (λ named. h.0 (e ∙ named), none_of_same a b labels e h.1)

-- the label of a set that was read is the text of that set
label_is_text : (text : List ℕ) (set : Charset) → IsCharsetText text set → IsCharsetText (charset_text set) set
label_is_text text (Ext label) h =
    let e = keeps_its_label text (Ext label) h in
    let once : map to_ascii_uppercase (string_bytes label) ≡ string_bytes label = ap (λ t. map to_ascii_uppercase t) h.0 ∙ (raised_twice text ∙ sym h.0) in (
      sym once,
      none_of_same text (string_bytes label) latin_labels e h.1,
      none_of_same text (string_bytes label) asian_labels e h.2,
      none_of_same text (string_bytes label) other_labels e h.3,
    )
label_is_text text set h = refl

-- a tag prints the part that it was read from
tag_prints : (text : List ℕ) (tag : Option LanguageTag) → IsTagPart text tag → tag_part_text tag ≡ text
tag_prints text None h = sym h
tag_prints text (Some tag) h = h.1

regrouped : (charset tag value : List ℕ) → charset ++ (39 ∷ []) ++ tag ++ (39 ∷ []) ++ value ≡ charset ++ 39 ∷ (tag ++ 39 ∷ value)
regrouped charset tag value = simp append_assoc

cut_is : (charset tag value : List ℕ) → HasNoQuote charset → HasNoQuote tag
    → IsCutInThree (charset ++ (39 ∷ []) ++ tag ++ (39 ∷ []) ++ value) charset tag value
cut_is charset tag value first second = record {
  rest = tag ++ 39 ∷ value;
  first = record { spelled = regrouped charset tag value; first = first };
  second = record { spelled = refl; first = second };
}

-- what an extended value that was read prints is read as that value
pub printed_is_read : (text : List ℕ) (v : ExtendedValue) → All (λ b. b < 256) v.value.items → SaysExtended text v → SaysExtended (extended_text v) v
printed_is_read text v bytes h =
    let same = tag_prints h.tag v.language_tag h.language in
    let P : List ℕ → Type 0 = λ t. HasNoQuote t in
    let Q : List ℕ → Type 0 = λ t. IsTagPart t v.language_tag in
    record {
      charset = charset_text v.charset;
      tag = tag_part_text v.language_tag;
      value = percent_encode HTTP_VALUE v.value.items;
      cut = cut_is (charset_text v.charset) (tag_part_text v.language_tag) (percent_encode HTTP_VALUE v.value.items)
          (label_has_none h.charset v.charset h.cut.first.first h.set) (subst P (sym same) h.cut.second.first);
      set = label_is_text h.charset v.charset h.set;
      language = subst Q (sym same) h.language;
      bytes = sym (round_trip HTTP_VALUE v.value.items refl bytes);
    }
