-- When two decoders of bodies are equal: by the numbers of their places, and the text of a trailer section.
use Rattle.std.specs.Prelude.{ℕ, Bool, true, false, List, [], ◌∷◌, nat_eq}
use Rattle.std.specs.Cmp.Lexicographic.{pointwise}
use Rattle.std.specs.Ordering.{on, eq_of_both}
use Rattle.model_h1.specs.Place.{InLine, line_start, in_name, in_value, line_cr, Place, in_size, in_blanks, in_extension, size_cr, in_bytes, bytes_end, bytes_cr, in_section, end_cr, done, broken}
use Rattle.model_state.specs.Kept as machine
use Rattle.model_state.specs.Kept.{no_rest, raw_rest, fixed_rest, chunks_rest, frames_rest}
use Rattle.h1_payload.specs.Decoding.{Decoding}
use Rattle.h1_payload.specs.Rests.{section_of}

-- the number of a test
abbrev pub flag : Bool → ℕ
flag true = 1
flag false = 0

-- the numbers of a place: which one it is, and what it counts
abbrev pub section_numbers : InLine → ℕ → ℕ → List ℕ
section_numbers line_start lines room = 7 ∷ lines ∷ room ∷ []
section_numbers in_name lines room = 8 ∷ lines ∷ room ∷ []
section_numbers in_value lines room = 9 ∷ lines ∷ room ∷ []
section_numbers line_cr lines room = 10 ∷ lines ∷ room ∷ []

abbrev pub place_numbers : Place → List ℕ
place_numbers (in_size n) = 0 ∷ n ∷ 0 ∷ []
place_numbers (in_blanks n) = 1 ∷ n ∷ 0 ∷ []
place_numbers (in_extension n) = 2 ∷ n ∷ 0 ∷ []
place_numbers (size_cr n) = 3 ∷ n ∷ 0 ∷ []
place_numbers (in_bytes n) = 4 ∷ n ∷ 0 ∷ []
place_numbers bytes_end = 5 ∷ 0 ∷ 0 ∷ []
place_numbers bytes_cr = 6 ∷ 0 ∷ 0 ∷ []
place_numbers (in_section line lines room) = section_numbers line lines room
place_numbers end_cr = 11 ∷ 0 ∷ 0 ∷ []
place_numbers done = 12 ∷ 0 ∷ 0 ∷ []
place_numbers broken = 13 ∷ 0 ∷ 0 ∷ []

-- the numbers of what is left of a body
abbrev pub rest_numbers : machine.Rest → List ℕ
rest_numbers (chunks_rest place section) = place_numbers place
rest_numbers no_rest = 14 ∷ 0 ∷ 0 ∷ []
rest_numbers raw_rest = 15 ∷ 0 ∷ 0 ∷ []
rest_numbers (fixed_rest n) = 16 ∷ n ∷ 0 ∷ []
rest_numbers (frames_rest under_way limit) = 17 ∷ flag under_way ∷ limit ∷ []

-- the same numbers, and the same text of a trailer section
abbrev pub are_equal : Decoding → Decoding → Bool
are_equal =
    eq_of_both (on (λ (d : Decoding). flag d.is_broken ∷ rest_numbers d.rest) (pointwise nat_eq))
    (on (λ (d : Decoding). section_of d.rest) (pointwise nat_eq))
