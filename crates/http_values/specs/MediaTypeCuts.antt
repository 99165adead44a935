-- How a media type is read: each rule takes the longest run of bytes of its class, and then the byte that has to follow.
use Rattle.std.specs.Prelude.{◌≡◌, ℕ, ◌<◌, ◌⊎◌, Bool, List, [], ◌∷◌, length, take, drop}
use Rattle.std.specs.List.{prefix_len}
use Rattle.http_header.specs.Token.{is_token_byte}
use Rattle.http_values.specs.declared.shared.mime.Class.{Class}
use Rattle.http_values.specs.declared.shared.mime.Class.TheVariants.{Token, Blank, Quotable}
use Rattle.http_values.specs.MediaType.{is_blank, is_quotable}

-- whether the byte is of the class
abbrev pub in_class : Class → ℕ → Bool
in_class Token b = is_token_byte b
in_class Blank b = is_blank b
in_class Quotable b = is_quotable b

-- the text begins with these bytes of the class, and no more, and this follows
pub record IsRun (class : Class) (text run rest : List ℕ) : Type 0 where
  pub run_is : run ≡ take (prefix_len (in_class class) text) text
  pub rest_is : rest ≡ drop (prefix_len (in_class class) text) text

-- token = 1*tchar
pub record IsTokenCut (text token rest : List ℕ) : Type 0 where
  pub run : IsRun Token text token rest
  pub some : 0 < length token

-- quoted = `"` *( printable ASCII but `"` and `\` ) `"`
pub record IsQuotedCut (text value rest : List ℕ) : Type 0 where
  pub inner : List ℕ
  pub opens : text ≡ 34 ∷ inner
  pub run : IsRun Quotable inner value (34 ∷ rest)

-- value = token / quoted
abbrev pub IsValueCut : List ℕ → List ℕ → List ℕ → Type 0
IsValueCut text value rest = IsQuotedCut text value rest ⊎ IsTokenCut text value rest

-- parameter = *blank ";" *blank token "=" value
pub record IsParameterCut (text name value rest : List ℕ) : Type 0 where
  pub blanks : List ℕ
  pub behind : List ℕ
  pub more_blanks : List ℕ
  pub named : List ℕ
  pub valued : List ℕ
  pub before : IsRun Blank text blanks (59 ∷ behind)
  pub after : IsRun Blank behind more_blanks named
  pub name_is : IsTokenCut named name (61 ∷ valued)
  pub value_is : IsValueCut valued value rest

-- parameters = *parameter, up to the text's end
abbrev pub AreParameters : List ℕ → List (List ℕ × List ℕ) → Type 0
AreParameters text [] = text ≡ []
AreParameters text (p ∷ ps) = (rest : List ℕ) × IsParameterCut text p.0 p.1 rest × AreParameters rest ps

-- token "/" token
pub record IsEssenceCut (text kind subtype rest : List ℕ) : Type 0 where
  pub behind : List ℕ
  pub kind_is : IsTokenCut text kind (47 ∷ behind)
  pub subtype_is : IsTokenCut behind subtype rest
