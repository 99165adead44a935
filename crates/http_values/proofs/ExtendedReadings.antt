-- The text of an extended value is read in one way.
use Rattle.std.proofs.Common.{◌≡◌, ℕ, List, [], Option, Some, None, sym, subst, ap, ◌∙◌}
use Rattle.std.specs.Prelude.{map}
use Rattle.std.specs.Char.{to_ascii_lowercase}
use Rattle.percent_encoding.specs.Percent.{percent_decode}
use Rattle.http_values.specs.declared.shared.language_tag.LanguageTag.{LanguageTag}
use Rattle.http_values.specs.declared.shared.extended.ExtendedValue.{ExtendedValue}
use Rattle.http_values.specs.declared.shared.language_tag.Place.TheVariants.{Start}
use Rattle.http_values.specs.LanguageTag.{IsLanguageTag, is_x}
use Rattle.http_values.specs.LanguageTagPlaces.{after_start}
use Rattle.http_values.proofs.TagSteps.{subtags, Leads}
use Rattle.http_values.specs.Charset.{IsNamed, charset_text}
use Rattle.http_values.specs.ExtendedValue.{IsTagPart, SaysExtended, SameTag}
use Rattle.http_values.proofs.CharsetLemmas.{keeps_its_label}
use Rattle.http_values.proofs.ExtendedLemmas.{three_unique}
use Rattle.http_values.proofs.TagTexts.{tag_leads}

-- an empty text is no tag
empty_is_no_tag : IsLanguageTag [] → ⊥
unfolding after_start is_x
empty_is_no_tag h = let leads : Leads (Some Start) (subtags []) = tag_leads [] h in cc (leads)

-- a part is that of one tag
tag_unique : (text : List ℕ) (a b : Option LanguageTag) → IsTagPart text a → IsTagPart text b → SameTag a b
tag_unique text None None h k = tt
tag_unique text None (Some b) h k = let P : List ℕ → Type 0 = λ t. IsLanguageTag t in absurd (empty_is_no_tag (subst P h k.0))
tag_unique text (Some a) None h k = let P : List ℕ → Type 0 = λ t. IsLanguageTag t in absurd (empty_is_no_tag (subst P k h.0))
tag_unique text (Some a) (Some b) h k = k.1 ∙ sym h.1

-- two readings of a text have the same set, tag and bytes
pub set_unique : (text : List ℕ) (a b : ExtendedValue) → SaysExtended text a → SaysExtended text b → IsNamed (charset_text a.charset) (charset_text b.charset)
set_unique text a b h k =
    let same = three_unique text h.charset h.tag h.value k.charset k.tag k.value h.cut k.cut in
    sym (keeps_its_label h.charset a.charset h.set) ∙ (ap (λ t. map to_ascii_lowercase t) same.0 ∙ keeps_its_label k.charset b.charset k.set)

pub language_unique : (text : List ℕ) (a b : ExtendedValue) → SaysExtended text a → SaysExtended text b → SameTag a.language_tag b.language_tag
language_unique text a b h k =
    let same = three_unique text h.charset h.tag h.value k.charset k.tag k.value h.cut k.cut in
    let P : List ℕ → Type 0 = λ t. IsTagPart t a.language_tag in tag_unique k.tag a.language_tag b.language_tag (subst P same.1 h.language) k.language

pub bytes_unique : (text : List ℕ) (a b : ExtendedValue) → SaysExtended text a → SaysExtended text b → a.value.items ≡ b.value.items
bytes_unique text a b h k =
    let same = three_unique text h.charset h.tag h.value k.charset k.tag k.value h.cut k.cut in
    h.bytes ∙ (ap (λ t. percent_decode t) same.2 ∙ sym k.bytes)
