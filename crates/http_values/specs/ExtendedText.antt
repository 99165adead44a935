-- How the text of an extended value is cut (RFC 5987, section 3.2.1).
use Rattle.std.specs.Prelude.{◌≡◌, ◌≢◌, ℕ, ◌⊎◌, List, [], ◌∷◌, ◌++◌, EachIndex, slice_index}
use Rattle.http_values.specs.LanguageTag.{IsLanguageTag}

-- no byte is a quote
abbrev pub HasNoQuote : List ℕ → Type 0
HasNoQuote text = EachIndex text (λ k. slice_index text k ≢ 39)

-- the text is cut at its first quote
pub record IsFirstCut (text front back : List ℕ) : Type 0 where
  pub spelled : text ≡ front ++ 39 ∷ back
  pub first : HasNoQuote front

-- the text is cut at its first two quotes
pub record IsCutInThree (text charset tag value : List ℕ) : Type 0 where
  pub rest : List ℕ
  pub first : IsFirstCut text charset rest
  pub second : IsFirstCut rest tag value

-- there is no tag, or a language tag
abbrev pub IsTagOrNone : List ℕ → Type 0
IsTagOrNone tag = (tag ≡ []) ⊎ IsLanguageTag tag

-- the text is that of an extended value
abbrev pub IsExtendedText : List ℕ → Type 0
IsExtendedText text = (charset : List ℕ) × (tag : List ℕ) × (value : List ℕ) × IsCutInThree text charset tag value × IsTagOrNone tag
