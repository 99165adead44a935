-- Lists with commas: the options of Connection and the protocols of Upgrade (RFC 9110, sections 5.6.1, 7.6.1 and 7.8).
use Rattle.std.specs.Prelude.{ℕ, Bool, true, false, ◌&&◌, ◌||◌, ◌==◌, List, [], ◌∷◌, length, take, drop, bytes_eq}
use Rattle.std.specs.List.{list_any}
use Rattle.httparse.specs.Grammar.{is_ows, skip_ows}
use Rattle.http_header.specs.FieldValue.{FieldValue}
use Rattle.http_header.specs.Token.{lowercase}

abbrev pub comma : ℕ
comma = 44

-- the text begins with the word, whatever the case of both
abbrev pub begins_with : List ℕ → List ℕ → Bool
begins_with word text = bytes_eq (lowercase (take (length word) text)) (lowercase word)

-- only white space stands before the next comma, or before the end where there is none
abbrev pub is_element_end : List ℕ → Bool
is_element_end [] = true
is_element_end (b ∷ text) = (b == comma) || (is_ows b && is_element_end text)

-- the first element is this word, whatever the case of both
abbrev pub begins_with_element : List ℕ → List ℕ → Bool
begins_with_element word text =
    begins_with word (skip_ows text) && is_element_end (drop (length word) (skip_ows text))

-- an element that follows a comma is this word
abbrev pub has_later_element : List ℕ → List ℕ → Bool
has_later_element word [] = false
has_later_element word (b ∷ text) = ((b == comma) && begins_with_element word text) || has_later_element word text

-- one of the elements between the commas is this word
abbrev pub has_element : List ℕ → List ℕ → Bool
has_element word text = begins_with_element word text || has_later_element word text

-- one of the lines has this word, alone or among others
abbrev pub lists : List ℕ → List FieldValue → Bool
lists word values = list_any (λ value. has_element word value.bytes) values
