-- Extended values and their texts (RFC 5987, section 3.2.1).
use Rattle.std.specs.Prelude.{◌≡◌, ℕ, List, [], Option, Some, None}
use Rattle.percent_encoding.specs.Percent as percent
use Rattle.http_values.specs.declared.shared.language_tag.LanguageTag.{LanguageTag}
use Rattle.http_values.specs.declared.shared.extended.ExtendedValue.{ExtendedValue}
use Rattle.http_values.specs.LanguageTag.{IsLanguageTag}
use Rattle.http_values.specs.TagText.{tag_text}
use Rattle.http_values.specs.Charset.{IsCharsetText}
use Rattle.http_values.specs.ExtendedText.{IsCutInThree}

-- an empty text is no tag, and any other the tag that it is
abbrev pub IsTagPart : List ℕ → Option LanguageTag → Type 0
IsTagPart text None = text ≡ []
IsTagPart text (Some tag) = IsLanguageTag text × (tag_text tag ≡ text)

-- The text is that of the value: a character set, a language tag or nothing, and escaped bytes, with quotes between them.
pub record SaysExtended (text : List ℕ) (v : ExtendedValue) : Type 0 where
  pub charset : List ℕ
  pub tag : List ℕ
  pub value : List ℕ
  pub cut : IsCutInThree text charset tag value
  pub set : IsCharsetText charset v.charset
  pub language : IsTagPart tag v.language_tag
  pub bytes : v.value.items ≡ percent.percent_decode value

-- the tag's text, or nothing
abbrev pub tag_part_text : Option LanguageTag → List ℕ
tag_part_text None = []
tag_part_text (Some tag) = tag_text tag

-- there is no tag, or a tag of the same text
abbrev pub SameTag : Option LanguageTag → Option LanguageTag → Type 0
SameTag None None = Unit {0}
SameTag (Some tag) (Some tag') = tag_text tag' ≡ tag_text tag
SameTag _ _ = ⊥
