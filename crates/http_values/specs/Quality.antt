-- Qualities and their texts, the q-values (RFC 7231, section 5.3.1).
use Rattle.std.specs.Prelude.{◌≡◌, ℕ, ◌+◌, ◌-◌, ◌*◌, ◌/◌, ◌%◌, ◌≤◌, List, [], ◌∷◌, length, IsTrue, Option, Some, None, ◌==◌, if◌then◌else◌}
use Rattle.std.specs.List.{list_all}
use Rattle.std.specs.Char.{is_ascii_digit}

-- A q-value as it is spelled: the digit before the point, and, where there is a point, the digits after it.
pub record Weight : Type 0 where
  pub whole : ℕ
  pub places : Option (List ℕ)

-- the point and the digits after it
abbrev pub places_text : Option (List ℕ) → List ℕ
places_text None = []
places_text (Some digits) = 46 ∷ digits

-- the text of a q-value
abbrev pub weight_text : Weight → List ℕ
weight_text w = w.whole ∷ places_text w.places

-- the digits after the point, if there are any
abbrev pub digits_of : Option (List ℕ) → List ℕ
digits_of None = []
digits_of (Some digits) = digits

-- what a digit says
abbrev pub digit : ℕ → ℕ
digit d = d - 48

-- how many thousandths the first three digits after the point say
abbrev pub places_thousandths : List ℕ → ℕ
places_thousandths [] = 0
places_thousandths (a ∷ []) = digit a * 100
places_thousandths (a ∷ b ∷ []) = digit a * 100 + digit b * 10
places_thousandths (a ∷ b ∷ c ∷ more) = digit a * 100 + digit b * 10 + digit c

-- how many thousandths a q-value says
abbrev pub weight_thousandths : Weight → ℕ
weight_thousandths w = digit w.whole * 1000 + places_thousandths (digits_of w.places)

-- one digit before the point, and at most three after it
pub record IsWeight (w : Weight) : Type 0 where
  pub whole : IsTrue (is_ascii_digit w.whole)
  pub places : IsTrue (list_all is_ascii_digit (digits_of w.places))
  pub short : length (digits_of w.places) ≤ 3

-- the text is that of a quality of so many thousandths, of which there are at most 1000
pub record IsQualityText (text : List ℕ) (thousandths : ℕ) : Type 0 where
  pub weight : Weight
  pub well_formed : IsWeight weight
  pub spelled : text ≡ weight_text weight
  pub says : weight_thousandths weight ≡ thousandths
  pub most : thousandths ≤ 1000

-- three digits after the point without the zeros at their end
abbrev pub shortest : ℕ → ℕ → ℕ → List ℕ
shortest a b c = if c == 48 then (if b == 48 then a ∷ [] else a ∷ b ∷ []) else a ∷ b ∷ c ∷ []

-- The text that a quality prints: `0`, `1`, or `0.` and its thousandths without zeros at the end.
abbrev pub quality_text : ℕ → List ℕ
quality_text n =
    if n == 0 then 48 ∷ []
    else (if n == 1000 then 49 ∷ []
    else 48 ∷ 46 ∷ shortest (48 + n / 100) (48 + n / 10 % 10) (48 + n % 10))

-- at most three digits
abbrev pub ArePlaces : List ℕ → Type 0
ArePlaces digits = IsTrue (list_all is_ascii_digit digits) × (length digits ≤ 3)
