-- The ASCII bytes that are escaped in the value of an extended parameter (RFC 5987, section 3.2.1).
use Rattle.std.specs.Prelude.{ℕ, Bool, ◌||◌, List, [], ◌∷◌, ◌==◌, nat_lt}
use Rattle.std.specs.List.{list_any}

-- the blank and the delimiters
abbrev pub delimiters : List ℕ
delimiters = 32 ∷ 34 ∷ 37 ∷ 39 ∷ 40 ∷ 41 ∷ 42 ∷ 44 ∷ 45 ∷ 47 ∷ 58 ∷ 59 ∷ 60 ∷ 62 ∷ 63 ∷ 91 ∷ 92 ∷ 93 ∷ 123 ∷ 125 ∷ []

-- a control, the blank or a delimiter
abbrev pub is_escaped : ℕ → Bool
is_escaped b = nat_lt b 32 || (b == 127) || list_any (λ d. d == b) delimiters
