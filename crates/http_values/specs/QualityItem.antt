-- Items with a quality and their texts (RFC 7231, section 5.3.1).
use Rattle.std.specs.Prelude.{◌≡◌, ◌≢◌, ℕ, ◌≤◌, ◌⊎◌, List, [], ◌∷◌, ◌++◌, length, IsAscii, EachIndex, slice_index, codes, ◌==◌, if◌then◌else◌}
use Rattle.std.specs.Str.{trim}
use Rattle.http_values.specs.Quality.{IsQualityText, quality_text}

-- `;`
abbrev pub semicolon : ℕ
semicolon = 59

-- no byte is a semicolon
abbrev pub HasNoSemicolon : List ℕ → Type 0
HasNoSemicolon text = EachIndex text (λ k. slice_index text k ≢ semicolon)

-- the text is cut at its last semicolon
pub record IsLastCut (text front back : List ℕ) : Type 0 where
  pub spelled : text ≡ front ++ semicolon ∷ back
  pub last : HasNoSemicolon back

-- the text begins with `q=` or `Q=`, and this follows
abbrev pub IsMarked : List ℕ → List ℕ → Type 0
IsMarked text weight = (text ≡ 113 ∷ 61 ∷ weight) ⊎ (text ≡ 81 ∷ 61 ∷ weight)

-- the whole text is the item, of the greatest quality
abbrev pub IsWhole : List ℕ → List ℕ → ℕ → Type 0
IsWhole text item thousandths = (item ≡ text) × (thousandths ≡ 1000)

-- what stands before the last semicolon is the item, and a quality follows, each with white space around it
pub record IsWeighed (text item : List ℕ) (thousandths : ℕ) : Type 0 where
  pub front : List ℕ
  pub back : List ℕ
  pub weight : List ℕ
  pub cut : IsLastCut text front back
  pub marked : IsMarked (trim back) weight
  pub says : IsQualityText weight thousandths
  pub item_is : item ≡ trim front

-- what follows the last semicolon is longer than a letter and begins with no `q=`: it belongs to the item
pub record IsUnweighed (text item : List ℕ) (thousandths : ℕ) : Type 0 where
  pub front : List ℕ
  pub back : List ℕ
  pub cut : IsLastCut text front back
  pub long : 2 ≤ length (trim back)
  pub unmarked : (weight : List ℕ) → ¬ (IsMarked (trim back) weight)
  pub whole : IsWhole text item thousandths

-- The text is that of an item, by the item's own text, with a quality.
pub record IsQualityItemText (text item : List ℕ) (thousandths : ℕ) : Type 0 where
  pub ascii : IsAscii text
  pub form : (HasNoSemicolon text × IsWhole text item thousandths) ⊎ (IsWeighed text item thousandths ⊎ IsUnweighed text item thousandths)

-- what follows the item where it is printed: nothing at the greatest quality
abbrev pub weight_suffix : ℕ → List ℕ
weight_suffix n = if n == 1000 then [] else codes "; q=" ++ quality_text n
