-- Words of lists with commas, as the values of a map have them (RFC 7230, section 7).
use Rattle.std.specs.Prelude.{ℕ, Bool, List, flat_map, ◌==◌}
use Rattle.httparse.specs.Grammar.{trim_ows}
use Rattle.http_header.specs.FieldValue.{FieldValue}
use Rattle.http_header.specs.Token.{lowercase}
use Rattle.model_proxy.specs.HopNames.{words_in}

-- a comma
abbrev pub is_comma : ℕ → Bool
is_comma byte = byte == 44

-- the text as one word: in lower case, and without the white space around it
abbrev pub word_of : List ℕ → List ℕ
word_of text = lowercase (trim_ows text)

-- the words of all these values
abbrev pub listed_words : List FieldValue → List (List ℕ)
listed_words values = flat_map (λ v. words_in v.bytes) values
