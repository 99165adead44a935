-- The places that the reading of a body in chunks goes through, a byte at a time. A place is bounded: it
-- holds no text.
use Rattle.std.specs.Prelude.{ℕ, ◌+◌, ◌-◌, ◌*◌, ◌^◌, ◌&&◌, List, [], ◌∷◌, nat_lt, ◌==◌, if◌then◌else◌}
use Rattle.std.specs.Char.{digit_value}
use Rattle.httparse.specs.Grammar.{is_ows, is_value_byte, is_token_byte}
use Rattle.httparse.specs.Ascii.{line_feed, carriage_return, colon, semicolon}
use Rattle.model_h1.specs.ChunkedText.{MAX_TRAILER_LINES, MAX_TRAILER_BYTES}

-- where in a trailer line: in front of one, in its name, in its value, behind its CR
pub data InLine : Type 0 where
  line_start in_name in_value line_cr : InLine

-- In a size line, its blanks or its extension, or behind its CR, with the size so far; in front of a byte of a
-- chunk, with how many follow that one; behind a chunk's bytes, or their CR; in a trailer section, with how
-- many lines and bytes it may still have; behind the CR of the empty line; behind the whole body; nowhere in
-- a body.
pub data Place : Type 0 where
  in_size in_blanks in_extension size_cr : ℕ → Place
  in_bytes : ℕ → Place
  bytes_end bytes_cr : Place
  in_section : InLine → ℕ → ℕ → Place
  end_cr done broken : Place

-- in front of a body
abbrev pub start : Place
start = in_size 0

-- in front of a trailer section
abbrev pub section_start : Place
section_start = in_section line_start MAX_TRAILER_LINES MAX_TRAILER_BYTES

-- only the wanted byte leads on
abbrev pub expect : ℕ → ℕ → Place → Place
expect wanted b next = if b == wanted then next else broken

-- behind the digits: a blank, a semicolon or CR
abbrev pub after_digits : ℕ → ℕ → Place
after_digits size b =
    if is_ows b then in_blanks size else (if b == semicolon then in_extension size else expect carriage_return b (size_cr size))

-- a further digit, while the size fits
abbrev pub size_step : ℕ → ℕ → Place
size_step size b =
    if nat_lt (digit_value b) 16
    then (if nat_lt (size * 16 + digit_value b) (2 ^ 64) then in_size (size * 16 + digit_value b) else broken)
    else after_digits size b

abbrev pub extension_step : ℕ → ℕ → Place
extension_step size b =
    if b == carriage_return then size_cr size else (if is_value_byte b then in_extension size else broken)

-- behind a size line
abbrev pub after_line : ℕ → Place
after_line size = if size == 0 then section_start else in_bytes (size - 1)

abbrev pub bytes_step : ℕ → Place
bytes_step more = if more == 0 then bytes_end else in_bytes (more - 1)

-- how many bytes a trailer line has at least, from here to its end
abbrev pub needs : InLine → ℕ
needs line_start = 0
needs in_name = 3
needs in_value = 2
needs line_cr = 1

-- a byte of the section, where the rest of its line has room behind it
abbrev pub with_room : InLine → ℕ → ℕ → Place
with_room to lines room = if nat_lt (needs to) room then in_section to lines (room - 1) else broken

abbrev pub section_step : InLine → ℕ → ℕ → ℕ → Place
section_step line_start lines room b =
    if b == carriage_return then end_cr
    else (if nat_lt 0 lines && is_token_byte b then with_room in_name lines room else broken)
section_step in_name lines room b =
    if b == colon then with_room in_value lines room else (if is_token_byte b then with_room in_name lines room else broken)
section_step in_value lines room b =
    if b == carriage_return then with_room line_cr lines room else (if is_value_byte b then with_room in_value lines room else broken)
section_step line_cr lines room b = if b == line_feed then with_room line_start (lines - 1) room else broken

-- the place behind one more byte; nothing follows a whole body
abbrev pub step : Place → ℕ → Place
step (in_size size) b = size_step size b
step (in_blanks size) b = after_digits size b
step (in_extension size) b = extension_step size b
step (size_cr size) b = expect line_feed b (after_line size)
step (in_bytes more) b = bytes_step more
step bytes_end b = expect carriage_return b bytes_cr
step bytes_cr b = expect line_feed b start
step (in_section at lines room) b = section_step at lines room b
step end_cr b = expect line_feed b done
step done b = broken
step broken b = broken

-- the place behind some bytes
unfoldable pub after : Place → List ℕ → Place
after place [] = place
after place (b ∷ bytes) = after (step place b) bytes
