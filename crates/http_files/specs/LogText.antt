-- How bytes stand in a line of a log.
use Rattle.std.specs.Prelude.{ℕ, List, [], ◌∷◌, ◌/◌, ◌%◌, Bool, false, ◌&&◌, ◌==◌, not, nat_lt, if◌then◌else◌}
use Rattle.std.specs.List.{flat_map}
use Rattle.std.specs.Fmt.{digit_glyph}

-- a visible byte of ASCII, but the backslash
abbrev pub is_shown : ℕ → Bool
is_shown b = nat_lt 32 b && nat_lt b 127 && not (b == 92)

-- it stands for itself, and another one is a backslash, `x` and two digits
abbrev pub shown : ℕ → List ℕ
shown b = if is_shown b then b ∷ [] else 92 ∷ 120 ∷ digit_glyph false (b / 16) ∷ digit_glyph false (b % 16) ∷ []

abbrev pub line_text : List ℕ → List ℕ
line_text bytes = flat_map shown bytes

-- ---- the same in JSON

-- it stands for itself, and another one and the quote are a backslash, `u00` and two digits
abbrev pub shown_in_json : ℕ → List ℕ
shown_in_json b =
    if is_shown b && not (b == 34) then b ∷ [] else 92 ∷ 117 ∷ 48 ∷ 48 ∷ digit_glyph false (b / 16) ∷ digit_glyph false (b % 16) ∷ []

abbrev pub json_text : List ℕ → List ℕ
json_text bytes = flat_map shown_in_json bytes
