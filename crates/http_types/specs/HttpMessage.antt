-- What a message's headers say of its body and of its connection. The first value of a name counts.
use Rattle.std.specs.Prelude.{ℕ, Bool, false, ◌||◌, ◌==◌, List, [], ◌∷◌, length, take, codes, bytes_eq, if◌then◌else◌, Option, Some, None, unwrap_or, option_and_then, Result, Ok, Err}
use Rattle.std.specs.List.{before_first}
use Rattle.std.specs.Str.{trim}
use Rattle.http_header.specs.Token.{lowercase}
use Rattle.http_header.specs.FieldValue.{FieldValue, is_visible_text}
use Rattle.http_map.specs.HeaderMap.{Entries, get}
use Rattle.http_types.specs.declared.error.ParseError.{ParseError}
use Rattle.http_types.specs.declared.error.ParseError.TheVariants.{Header}

-- b';'
abbrev pub semicolon : ℕ
semicolon = 59

-- the text begins with the word, whatever the case of both
abbrev pub begins_with : List ℕ → List ℕ → Bool
begins_with word text = bytes_eq (lowercase (take (length word) text)) (lowercase word)

-- the word stands at some place of the text, whatever the case of both
unfoldable pub has_word : List ℕ → List ℕ → Bool
has_word word [] = begins_with word []
has_word word (b ∷ text) = begins_with word (b ∷ text) || has_word word text

-- a value as a text, where its bytes are visible ASCII, spaces and tabs
abbrev pub text_of : List ℕ → Option (List ℕ)
text_of bytes = if is_visible_text bytes then Some bytes else None

-- the first value of the name, where it is there and is a text
abbrev pub first_text : Entries → List ℕ → Option (List ℕ)
first_text headers name = option_and_then (λ v. text_of v.bytes) (get headers name)

-- what stands before the first semicolon, without the white space around it
abbrev pub media_type : List ℕ → List ℕ
media_type text = trim (before_first (λ b. b == semicolon) text)

-- The media type of the body, without its parameters (RFC 7231, section 3.1.1.5). It is empty where none is told, or
-- where the value is no text.
abbrev pub content_type_of : Entries → List ℕ
content_type_of headers = media_type (unwrap_or (first_text headers (codes "content-type")) [])

abbrev pub chunked_by : Option FieldValue → Result Bool ParseError
chunked_by None = Ok false
chunked_by (Some value) = if is_visible_text value.bytes then Ok (has_word (codes "chunked") value.bytes) else Err Header

-- whether the body comes in chunks (RFC 7230, section 3.3.1); a value that is no text is refused
abbrev pub chunked_of : Entries → Result Bool ParseError
chunked_of headers = chunked_by (get headers (codes "transfer-encoding"))

-- the text has the word, where there is one
abbrev pub says_word : List ℕ → Option (List ℕ) → Bool
says_word word None = false
says_word word (Some text) = has_word word text

-- the Connection line asks for another protocol (RFC 7230, section 6.7)
abbrev pub asks_to_upgrade : Entries → Bool
asks_to_upgrade headers = says_word (codes "upgrade") (first_text headers (codes "connection"))

abbrev pub upgrade_by : Option (List ℕ) → List ℕ → Bool
upgrade_by None method = bytes_eq method (codes "CONNECT")
upgrade_by (Some text) method = has_word (codes "upgrade") text

-- the same, but where no Connection line is a text the method says it (RFC 7231, section 4.3.6)
abbrev pub upgrade_or_connect : Entries → List ℕ → Bool
upgrade_or_connect headers method = upgrade_by (first_text headers (codes "connection")) method
