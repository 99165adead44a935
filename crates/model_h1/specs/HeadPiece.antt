-- The head of a message on the stream (RFC 7230, sections 3 and 3.5): empty lines, which are passed over,
-- and then everything up to and with the first empty line.
use Rattle.std.specs.Prelude.{◌≡◌, ℕ, ◌-◌, ◌<◌, ◌≤◌, List, ◌∷◌, ◌++◌, length, take, drop, slice_range, count_by, ◌==◌}
use Rattle.httparse.specs.Ascii.{line_feed}
use Rattle.httparse.specs.Grammar.{LineEnd, print_end, print_blank}

-- the text is empty lines, LF or CR LF, and nothing else
abbrev pub AreBlankLines : List ℕ → Type 0
AreBlankLines text = (ends : List LineEnd) × (text ≡ print_blank ends)

-- the text begins with an empty line
abbrev pub BeginsBlank : List ℕ → Type 0
BeginsBlank text = (end : LineEnd) × (rest : List ℕ) × (text ≡ print_end end ++ rest)

-- the text ends with a line feed and an empty line
abbrev pub EndsBlank : List ℕ → Type 0
EndsBlank text = (before : List ℕ) × (end : LineEnd) × (text ≡ before ++ line_feed ∷ print_end end)

-- The head stands from start to end: in front of it are empty lines alone, it begins with none, and it
-- ends at the first place where it ends with one.
pub record IsHeadPiece (bytes : List ℕ) (start end : ℕ) : Type 0 where
  pub ordered : start ≤ end
  pub in_range : end ≤ length bytes
  pub blank : AreBlankLines (take start bytes)
  pub begins : ¬ (BeginsBlank (drop start bytes))
  pub ends : EndsBlank (slice_range bytes start end)
  pub first : (e : ℕ) → start ≤ e → e < end → ¬ (EndsBlank (slice_range bytes start e))

-- no head is whole yet
abbrev pub HasNoHeadPiece : List ℕ → Type 0
HasNoHeadPiece bytes = (start end : ℕ) → ¬ (IsHeadPiece bytes start end)

-- how many header lines a piece has: its line feeds less those of the first line and of the empty line
abbrev pub header_lines : List ℕ → ℕ
header_lines piece = count_by (λ b. b == line_feed) piece - 2
