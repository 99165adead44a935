-- The text of the trailer lines that is read takes no more than the room of its place.
use Rattle.std.proofs.Common.{ℕ, ◌-◌, ◌<◌, ◌≤◌, ltb, eqb, cond, Bool, true, false, List, [], ◌∷◌, length, sym, subst, inl, inr, arith}
use Rattle.std.specs.Prelude.{◌+◌, ◌*◌, ◌^◌, ◌&&◌, ⊤}
use Rattle.std.specs.Char.{digit_value}
use Rattle.std.proofs.lemmas.Bool.{cond-true, cond-false, cases_lt, lt-ltb, le-ltb}
use Rattle.httparse.specs.Grammar.{is_ows, is_value_byte, is_token_byte}
use Rattle.httparse.specs.Ascii.{line_feed, carriage_return, colon, semicolon}
use Rattle.model_h1.specs.ChunkedText.{MAX_TRAILER_BYTES}
use Rattle.model_h1.specs.Place.{InLine, line_start, in_name, in_value, line_cr, Place, in_size, in_blanks, in_extension, size_cr, in_bytes, bytes_end, bytes_cr, in_section, end_cr, done, broken, start, section_start, after_digits, after_line, needs, with_room, section_step, step}
use Rattle.model_h1.specs.Reading.{Reading, noted, read}

-- how many bytes of trailer lines may still be read from a place on
abbrev pub trailer_room : Place → ℕ
trailer_room (in_section at lines room) = room
trailer_room end_cr = 0
trailer_room done = 0
trailer_room broken = 0
trailer_room place = MAX_TRAILER_BYTES

-- ---- one byte outside of a trailer section

-- the place has no more room than this
abbrev HasRoom : ℕ → Place → Type 0
HasRoom room place = trailer_room place ≤ room

-- a choice between two such places is one
room_of_choice : (room : ℕ) (b : Bool) (x y : Place) → HasRoom room x → HasRoom room y → HasRoom room (cond b x y)
room_of_choice room true x y room_x room_y = room_x
room_of_choice room false x y room_x room_y = room_y

-- so is one that may be broken
room_or_broken : (room : ℕ) (b : Bool) (x : Place) → HasRoom room x → HasRoom room (cond b x broken)
room_or_broken room b x room_x = room_of_choice room b x broken room_x (omega arith)

-- behind the digits of a size
room_of_digits : (size b : ℕ) → HasRoom 8192 (after_digits size b)
room_of_digits size b =
    let end = cond (eqb b carriage_return) (size_cr size) broken in
    let ends = room_or_broken 8192 (eqb b carriage_return) (size_cr size) (omega arith) in
    room_of_choice 8192 (is_ows b) (in_blanks size) (cond (eqb b semicolon) (in_extension size) end) (omega arith)
    (room_of_choice 8192 (eqb b semicolon) (in_extension size) end (omega arith) ends)

-- any place outside of a trailer section
abbrev IsOutside : Place → Type 0
IsOutside (in_section at lines room) = ⊥
IsOutside place = ⊤

-- a byte there leads to no more room
room_of_step : (place : Place) (b : ℕ) → IsOutside place → HasRoom (trailer_room place) (step place b)
room_of_step (in_size size) b outside =
    let value = size * 16 + digit_value b in
    room_of_choice 8192 (ltb (digit_value b) 16) (cond (ltb value (2 ^ 64)) (in_size value) broken) (after_digits size b)
    (room_or_broken 8192 (ltb value (2 ^ 64)) (in_size value) (omega arith)) (room_of_digits size b)
room_of_step (in_blanks size) b outside = room_of_digits size b
room_of_step (in_extension size) b outside =
    room_of_choice 8192 (eqb b carriage_return) (size_cr size) (cond (is_value_byte b) (in_extension size) broken) (omega arith)
    (room_or_broken 8192 (is_value_byte b) (in_extension size) (omega arith))
room_of_step (size_cr size) b outside =
    room_or_broken 8192 (eqb b line_feed) (after_line size)
    (room_of_choice 8192 (eqb size 0) section_start (in_bytes (size - 1)) (omega arith) (omega arith))
room_of_step (in_bytes more) b outside = room_of_choice 8192 (eqb more 0) bytes_end (in_bytes (more - 1)) (omega arith) (omega arith)
room_of_step bytes_end b outside = room_or_broken 8192 (eqb b carriage_return) bytes_cr (omega arith)
room_of_step bytes_cr b outside = room_or_broken 8192 (eqb b line_feed) start (omega arith)
room_of_step (in_section at lines room) b outside = absurd outside
room_of_step end_cr b outside = room_or_broken 0 (eqb b line_feed) done (omega arith)
room_of_step done b outside = omega arith
room_of_step broken b outside = omega arith

-- ---- one byte of a trailer section

-- a byte leads to a place with less room, or out of the section
abbrev LeavesRoom : ℕ → Place → Type 0
LeavesRoom room (in_section at lines less) = less < room
LeavesRoom room place = trailer_room place ≤ room

-- a choice between two such places is one
leaves_choice : (room : ℕ) (b : Bool) (x y : Place) → LeavesRoom room x → LeavesRoom room y → LeavesRoom room (cond b x y)
leaves_choice room true x y leaves_x leaves_y = leaves_x
leaves_choice room false x y leaves_x leaves_y = leaves_y

-- a byte that is kept takes one of the room
leaves_kept : (to : InLine) (lines room : ℕ) → LeavesRoom room (with_room to lines room)
leaves_kept to lines room = elim (cases_lt (needs to) room) [
  | inl fits ↦
      subst (LeavesRoom room) (sym (cond-true (ltb (needs to) room) (in_section to lines (room - 1)) broken (lt-ltb (needs to) room fits))) (omega arith)
  | inr full ↦
      subst (LeavesRoom room) (sym (cond-false (ltb (needs to) room) (in_section to lines (room - 1)) broken (le-ltb (needs to) room full))) (omega arith)
]

-- so does one that is kept, or leads nowhere
leaves_or_broken : (room : ℕ) (b : Bool) (x : Place) → LeavesRoom room x → LeavesRoom room (cond b x broken)
leaves_or_broken room b x leaves_x = leaves_choice room b x broken leaves_x (omega arith)

-- any byte of a section
leaves_section : (at : InLine) (lines room b : ℕ) → LeavesRoom room (section_step at lines room b)
leaves_section line_start lines room b =
    leaves_choice room (eqb b carriage_return) end_cr (cond (ltb 0 lines && is_token_byte b) (with_room in_name lines room) broken) (omega arith)
    (leaves_or_broken room (ltb 0 lines && is_token_byte b) (with_room in_name lines room) (leaves_kept in_name lines room))
leaves_section in_name lines room b =
    leaves_choice room (eqb b colon) (with_room in_value lines room) (cond (is_token_byte b) (with_room in_name lines room) broken) (leaves_kept in_value lines room)
    (leaves_or_broken room (is_token_byte b) (with_room in_name lines room) (leaves_kept in_name lines room))
leaves_section in_value lines room b =
    leaves_choice room (eqb b carriage_return) (with_room line_cr lines room) (cond (is_value_byte b) (with_room in_value lines room) broken)
    (leaves_kept line_cr lines room) (leaves_or_broken room (is_value_byte b) (with_room in_value lines room) (leaves_kept in_value lines room))
leaves_section line_cr lines room b =
    leaves_or_broken room (eqb b line_feed) (with_room line_start (lines - 1) room) (leaves_kept line_start (lines - 1) room)

-- what is noted of it stays within the room
noted_bounded : (at : InLine) (lines room : ℕ) (q : Place) (b : ℕ) (r : Reading) → LeavesRoom room q → length r.trailers ≤ trailer_room q
    → length (noted (in_section at lines room) q b r).trailers ≤ room
noted_bounded at lines room (in_section at' lines' room') b r leaves within = omega arith
noted_bounded at lines room q b r leaves within = omega arith

-- ---- all bytes

-- the text of the trailer lines stays within the room of the place
pub trailers_fit : (bytes : List ℕ) (place : Place) → length (read place bytes).trailers ≤ trailer_room place
unfolding read
trailers_fit [] place = omega arith
trailers_fit (b ∷ bytes) done = omega arith
trailers_fit (b ∷ bytes) (in_section at lines room) =
    let q = step (in_section at lines room) b in
    noted_bounded at lines room q b (read q bytes) (leaves_section at lines room b) (trailers_fit bytes q)
trailers_fit (b ∷ bytes) place = omega (arith, trailers_fit bytes (step place b), room_of_step place b tt)
