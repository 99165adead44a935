-- The text that a language tag keeps.
use Rattle.std.specs.Prelude.{ℕ, List, string_bytes}
use Rattle.http_values.specs.declared.shared.language_tag.LanguageTag.{LanguageTag}

-- the text as it was read, which the tag prints
abbrev pub tag_text : LanguageTag → List ℕ
tag_text tag = string_bytes tag.text
