-- The text of a host, with or without a port (RFC 9110, section 7.2; RFC 3986, section 3.2).
use Rattle.std.specs.Prelude.{ℕ, Bool, true, false, ◌&&◌, ◌||◌, ◌==◌, ◌-◌, not, List, [], ◌∷◌, length, slice_index, if◌then◌else◌}
use Rattle.std.specs.List.{list_all, list_any}
use Rattle.std.specs.Char.{is_ascii_digit, is_ascii_hexdigit, is_ascii_alphanumeric}

abbrev pub percent : ℕ
percent = 37

abbrev pub dot : ℕ
dot = 46

abbrev pub colon : ℕ
colon = 58

abbrev pub opening : ℕ
opening = 91

abbrev pub closing : ℕ
closing = 93

-- one of !$&'()*+,;= and -._~
abbrev pub is_mark : ℕ → Bool
is_mark b =
    (b == 33) || ((b == 36) || ((b == 38) || ((b == 39) || ((b == 40) || ((b == 41) || ((b == 42) || ((b == 43) || ((b == 44)
    || ((b == 45) || ((b == 46) || ((b == 59) || ((b == 61) || ((b == 95) || (b == 126))))))))))))))

-- a byte that stands for itself in a registered name
abbrev pub is_name_byte : ℕ → Bool
is_name_byte b = is_ascii_alphanumeric b || is_mark b

-- two hexadecimal digits come first
abbrev pub begins_with_hex : List ℕ → Bool
begins_with_hex [] = false
begins_with_hex (a ∷ []) = false
begins_with_hex (a ∷ b ∷ rest) = is_ascii_hexdigit a && is_ascii_hexdigit b

-- digits alone, or nothing
abbrev pub is_port : List ℕ → Bool
is_port text = list_all is_ascii_digit text

-- A registered name, of bytes that stand for themselves and of escapes; then nothing, or a colon and a port. An IPv4
-- address is such a name too.
abbrev pub is_named_host : List ℕ → Bool
is_named_host [] = true
is_named_host (b ∷ rest) =
    if b == colon then is_port rest
    else (is_name_byte b || ((b == percent) && begins_with_hex rest)) && is_named_host rest

-- a byte of an IPv6 address
abbrev pub is_address_byte : ℕ → Bool
is_address_byte b = is_ascii_hexdigit b || ((b == colon) || (b == dot))

-- nothing, or a colon and a port
abbrev pub is_port_part : List ℕ → Bool
is_port_part [] = true
is_port_part (b ∷ rest) = (b == colon) && is_port rest

-- bytes of an IPv6 address up to a closing bracket; then nothing, or a colon and a port
abbrev pub is_address_host : List ℕ → Bool
is_address_host [] = false
is_address_host (b ∷ rest) = if b == closing then is_port_part rest else is_address_byte b && is_address_host rest

-- bytes of an IPv6 address behind an opening bracket, at least one
abbrev pub is_bracketed : List ℕ → Bool
is_bracketed [] = false
is_bracketed (b ∷ rest) = if b == closing then false else is_address_host (b ∷ rest)

-- A host with or without a port: a name, or in brackets bytes of an IPv6 address, at least one. An empty text is one: a
-- client sends it where its target has no authority. A port alone is none (RFC 9110, section 4.2.1).
abbrev pub is_host : List ℕ → Bool
is_host [] = true
is_host (b ∷ rest) = if b == opening then is_bracketed rest else not (b == colon) && is_named_host (b ∷ rest)

-- there is a colon, the text doesn't begin with it, and a digit comes last
abbrev pub has_port : List ℕ → Bool
has_port text =
    not (slice_index text 0 == colon) && (list_any (λ b. b == colon) text && is_ascii_digit (slice_index text (length text - 1)))
