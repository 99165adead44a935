-- Language tags (RFC 5646, section 2.1), but those that are registered whole: subtags with hyphens between them. A tree,
-- its text, and when the tree is well formed.
use Rattle.std.specs.Prelude.{◌≡◌, ℕ, ◌<◌, ◌≤◌, ◌⊎◌, Bool, ◌&&◌, ◌||◌, not, List, [], ◌∷◌, ◌++◌, length, IsTrue, Option, Some, None, ◌==◌, nat_le, slice_index, flat_map}
use Rattle.std.specs.List.{list_all, join_with_byte, AllByRecursion}
use Rattle.std.specs.Char.{is_ascii_alphabetic, is_ascii_digit, is_ascii_alphanumeric}

-- from low to high bytes
abbrev pub has_len : ℕ → ℕ → List ℕ → Bool
has_len low high s = nat_le low (length s) && nat_le (length s) high

-- so many letters; letters and digits; digits
abbrev pub is_letters : ℕ → ℕ → List ℕ → Bool
is_letters low high s = has_len low high s && list_all is_ascii_alphabetic s

abbrev pub is_letters_or_digits : ℕ → ℕ → List ℕ → Bool
is_letters_or_digits low high s = has_len low high s && list_all is_ascii_alphanumeric s

abbrev pub is_digits : ℕ → ℕ → List ℕ → Bool
is_digits low high s = has_len low high s && list_all is_ascii_digit s

-- region = 2ALPHA / 3DIGIT
unfoldable pub is_region : List ℕ → Bool
is_region s = is_letters 2 2 s || is_digits 3 3 s

-- variant = 5*8alphanum / (DIGIT 3alphanum)
unfoldable pub is_variant : List ℕ → Bool
is_variant s = is_letters_or_digits 5 8 s || (is_letters_or_digits 4 4 s && is_ascii_digit (slice_index s 0))

-- `x`, which begins private use
unfoldable pub is_x : List ℕ → Bool
is_x s = (length s == 1) && ((slice_index s 0 == 120) || (slice_index s 0 == 88))

-- singleton = any other letter or digit
unfoldable pub is_singleton : List ℕ → Bool
is_singleton s = is_letters_or_digits 1 1 s && not (is_x s)

-- each subtag passes the test
abbrev pub EachPasses : (List ℕ → Bool) → List (List ℕ) → Type 0
EachPasses test subtags = IsTrue (list_all test subtags)

-- there is no subtag, or it passes the test
abbrev pub NonePasses : (List ℕ → Bool) → Option (List ℕ) → Type 0
NonePasses test None = Unit {0}
NonePasses test (Some subtag) = IsTrue (test subtag)

-- extension = singleton 1*("-" (2*8alphanum))
pub record ExtensionPart : Type 0 where
  pub singleton : List ℕ
  pub subtags : List (List ℕ)

-- its subtags
abbrev pub extension_subtags : ExtensionPart → List (List ℕ)
extension_subtags e = e.singleton ∷ e.subtags

-- each subtag is of its class
pub record IsExtensionPart (e : ExtensionPart) : Type 0 where
  pub singleton : IsTrue (is_singleton e.singleton)
  pub some : 0 < length e.subtags
  pub subtags : EachPasses (is_letters_or_digits 2 8) e.subtags

-- privateuse = "x" 1*("-" (1*8alphanum))
pub record PrivatePart : Type 0 where
  pub mark : List ℕ
  pub subtags : List (List ℕ)

-- its subtags
abbrev pub private_subtags : PrivatePart → List (List ℕ)
private_subtags p = p.mark ∷ p.subtags

-- each subtag is of its class
pub record IsPrivatePart (p : PrivatePart) : Type 0 where
  pub mark : IsTrue (is_x p.mark)
  pub some : 0 < length p.subtags
  pub subtags : EachPasses (is_letters_or_digits 1 8) p.subtags

-- the subtag, or the part, if there is one
abbrev pub subtag_if : Option (List ℕ) → List (List ℕ)
subtag_if None = []
subtag_if (Some subtag) = subtag ∷ []

-- the same of a part of several subtags
abbrev pub private_if : Option PrivatePart → List (List ℕ)
private_if None = []
private_if (Some p) = private_subtags p

-- there is no such part, or one of its class
abbrev pub IsPrivateIf : Option PrivatePart → Type 0
IsPrivateIf None = Unit {0}
IsPrivateIf (Some p) = IsPrivatePart p

-- langtag = language *("-" extlang) ["-" script] ["-" region] *("-" variant) *("-" extension) ["-" privateuse]
pub record Langtag : Type 0 where
  pub language : List ℕ
  pub extlangs : List (List ℕ)
  pub script : Option (List ℕ)
  pub region : Option (List ℕ)
  pub variants : List (List ℕ)
  pub extensions : List ExtensionPart
  pub private : Option PrivatePart

-- its subtags, in order
abbrev pub langtag_subtags : Langtag → List (List ℕ)
langtag_subtags t =
    t.language ∷ (t.extlangs ++ (subtag_if t.script ++ (subtag_if t.region ++ (t.variants ++ (flat_map extension_subtags t.extensions ++ private_if t.private)))))

-- language = 2*3ALPHA, which up to three extlang = 3ALPHA may follow, or 4*8ALPHA
abbrev pub IsLanguage : List ℕ → List (List ℕ) → Type 0
IsLanguage language extlangs =
    (IsTrue (is_letters 2 3 language) × (length extlangs ≤ 3) × EachPasses (is_letters 3 3) extlangs)
    ⊎ (IsTrue (is_letters 4 8 language) × (extlangs ≡ []))

-- script = 4ALPHA
pub record IsLangtag (t : Langtag) : Type 0 where
  pub language : IsLanguage t.language t.extlangs
  pub script : NonePasses (is_letters 4 4) t.script
  pub region : NonePasses is_region t.region
  pub variants : EachPasses is_variant t.variants
  pub extensions : AllByRecursion IsExtensionPart t.extensions
  pub private : IsPrivateIf t.private

-- Language-Tag = langtag / privateuse
pub data TagTree : Type 0 where
  Common : Langtag → TagTree
  Private : PrivatePart → TagTree

-- its subtags, in order
abbrev pub tree_subtags : TagTree → List (List ℕ)
tree_subtags (Common t) = langtag_subtags t
tree_subtags (Private p) = private_subtags p

-- its text: the subtags with hyphens between them
abbrev pub tree_text : TagTree → List ℕ
tree_text t = join_with_byte 45 (tree_subtags t)

-- each part is of its class
abbrev pub IsTagTree : TagTree → Type 0
IsTagTree (Common t) = IsLangtag t
IsTagTree (Private p) = IsPrivatePart p

-- the text is that of a language tag
pub record IsLanguageTag (text : List ℕ) : Type 0 where
  pub tree : TagTree
  pub well_formed : IsTagTree tree
  pub spelled : text ≡ tree_text tree
