-- What the words of a script spell.
use Rattle.std.specs.Prelude.{ℕ, option_map, option_and_then, ◌&&◌, ◌||◌, ◌^◌, ◌==◌, nat_le, nat_lt, Bool, true, false, List, [], ◌∷◌, Option, Some, None, length, codes, if◌then◌else◌}
use Rattle.std.specs.List.{list_all, list_any, slice_split}
use Rattle.std.specs.Result.{result_ok}
use Rattle.std.specs.Str.{bytes_eq, all_ascii_digits, is_utf8}
use Rattle.std.specs.Str.Parse.{digits_value}
use Rattle.hex.specs.Hex.{decode_of}
use Rattle.http_header.specs.FieldName.{is_field_name}
use Rattle.http_header.specs.FieldValue.{FieldValue, plain_value}
use Rattle.http_header.specs.Token.{is_value_byte, lowercase}
use Rattle.http_map.specs.HeaderMap.{Pair}
use Rattle.http_config.specs.declared.keep_alive.KeepAlive.{KeepAlive}
use Rattle.http_config.specs.declared.keep_alive.KeepAlive.TheVariants.{Timeout, Os, Disabled}
use Rattle.http_framing.specs.declared.body.size.BodySize.{BodySize}
use Rattle.http_framing.specs.declared.body.size.BodySize.TheVariants as size
use Rattle.h1_replay.specs.InputPieces.{only_of}
use Rattle.h1_replay.specs.declared.marks.Marks.{Marks}

-- the next step of a reading, where there was something to read
infixl 10 ◌>>=◌
abbrev pub ◌>>=◌ : {A B : Type 0} → Option A → (A → Option B) → Option B
o >>= f = option_and_then f o

-- whether a word is a number: 1 to 20 decimal digits, of a value that fits 64 bits
abbrev pub is_number : List ℕ → Bool
is_number word = nat_lt 0 (length word) && nat_le (length word) 20 && all_ascii_digits word && nat_lt (digits_value 10 word) (2 ^ 64)

-- the number that a word spells
abbrev pub number_of : List ℕ → Option ℕ
number_of word = if is_number word then Some (digits_value 10 word) else None

-- the bytes that a word spells: pairs of hex digits of either case, or `-` for none
abbrev pub bytes_of : List ℕ → Option (List ℕ)
bytes_of word = if bytes_eq word (codes "-") then Some [] else if length word == 0 then None else result_ok (decode_of word)

-- the text that a word spells, by the bytes of its UTF-8
abbrev pub text_of : List ℕ → Option (List ℕ)
text_of word = option_and_then (λ bytes. if is_utf8 bytes then Some bytes else None) (bytes_of word)

-- a flag: `0` or `1`
abbrev pub flag_of : List ℕ → Option Bool
flag_of word = if bytes_eq word (codes "0") then Some false else if bytes_eq word (codes "1") then Some true else None

-- how long a connection is kept: `os`, `off`, or a number of milliseconds
abbrev pub keep_alive_of : List ℕ → Option KeepAlive
keep_alive_of word =
    if bytes_eq word (codes "os") then Some Os
    else if bytes_eq word (codes "off") then Some Disabled
    else option_map (λ n. Timeout n) (number_of word)

-- the status of an answer: 100 to 999
abbrev pub status_of : List ℕ → Option ℕ
status_of word = option_and_then (λ n. if nat_le 100 n && nat_le n 999 then Some n else None) (number_of word)

-- the size of a body: `none`, `stream`, or a number of bytes
abbrev pub size_of : List ℕ → Option BodySize
size_of word =
    if bytes_eq word (codes "none") then Some size.None
    else if bytes_eq word (codes "stream") then Some size.Stream
    else option_map (λ n. size.Sized n) (number_of word)

-- ---- what an answer's head may have

abbrev pub no_marks : Marks
no_marks = record { close = false; keep_alive = false; upgrade = false; no_chunking = false; camel_case = false }

-- a mark that isn't there yet
abbrev pub once : Bool → Marks → Option Marks
once is_there marks = if is_there then None else Some marks

-- one more letter: c, k, u, n or m
abbrev pub with_letter : ℕ → Marks → Option Marks
with_letter letter marks =
    if letter == 99 then once marks.close (record marks { close = true })
    else if letter == 107 then once marks.keep_alive (record marks { keep_alive = true })
    else if letter == 117 then once marks.upgrade (record marks { upgrade = true })
    else if letter == 110 then once marks.no_chunking (record marks { no_chunking = true })
    else if letter == 109 then once marks.camel_case (record marks { camel_case = true })
    else None

-- the letters of a word, each behind those before it
abbrev pub with_letters : List ℕ → Marks → Option Marks
with_letters [] marks = Some marks
with_letters (letter ∷ letters) marks = option_and_then (with_letters letters) (with_letter letter marks)

-- the marks that a word names: distinct letters, or `-` for none
abbrev pub marks_of : List ℕ → Option Marks
marks_of word =
    if bytes_eq word (codes "-") then Some no_marks
    else if length word == 0 then None else with_letters word no_marks

-- CR and LF
abbrev pub is_line_byte : ℕ → Bool
is_line_byte b = (b == 13) || (b == 10)

-- the reason that stands behind a slash: a text without CR and LF (RFC 7230, section 3.1.2)
abbrev pub reason_of : List ℕ → Option (List ℕ)
reason_of word = option_and_then (λ text. if list_any is_line_byte text then None else Some text) (text_of word)

-- a header's name, in any case, and its value
abbrev pub name_of : List ℕ → Option (List ℕ)
name_of word = if is_field_name word then Some (lowercase word) else None

abbrev pub value_of : List ℕ → Option FieldValue
value_of bytes = if list_all is_value_byte bytes then Some (plain_value bytes) else None

-- the parts of a header, which `=` parts: its name and the word of its value
abbrev pub header_by : List (List ℕ) → Option Pair
header_by [] = None
header_by (name ∷ more) = do
  value ← only_of more
  bytes ← bytes_of value
  value ← value_of bytes
  name ← name_of name
  Some (name, value)

abbrev pub header_of : List ℕ → Option Pair
header_of word = header_by (slice_split (λ b. b == 61) word)
