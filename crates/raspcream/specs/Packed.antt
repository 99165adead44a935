-- Lines as C hands them in: one behind the other, each with the lengths of its name and of its value.
use Rattle.std.specs.Prelude.{◌≡◌, ℕ, ◌+◌, ◌*◌, ◌≤◌, List, [], ◌∷◌, ◌++◌, length, map, drop, slice_index}
use Rattle.http_framing.specs.HeaderLines.{Line, IsLine, line_header, header_map}
use Rattle.http_map.specs.HeaderMap.{Entries}

-- the number of the four bytes from this place on, the lowest first
abbrev pub number_at : List ℕ → ℕ → ℕ
number_at text at =
    ((slice_index text at + slice_index text (at + 1) * 256) + slice_index text (at + 2) * 65536) + slice_index text (at + 3) * 16777216

-- The text begins with this pair: the lengths of its two parts, then the parts. The rest follows.
pub record IsPair (text first second rest : List ℕ) : Type 0 where
  pub lengths : 8 ≤ length text
  pub first_len : length first ≡ number_at text 0
  pub second_len : length second ≡ number_at text 4
  pub parts : drop 8 text ≡ first ++ (second ++ rest)

-- the text is these lines, each with a name and a value that a line may have
pub data Packs : List ℕ → List Line → Type 0 where
  no_line : Packs [] []
  one_line : (text rest : List ℕ) (line : Line) (lines : List Line) → IsPair text line.0 line.1 rest → IsLine line → Packs rest lines → Packs text (line ∷ lines)

-- the map has the lines of the text, in their order
abbrev pub IsFilled : List ℕ → Entries → Type 0
IsFilled text entries = (lines : List Line) × Packs text lines × (entries ≡ header_map (map line_header lines))

-- the text isn't lines
abbrev pub AreNoLines : List ℕ → Type 0
AreNoLines text = (lines : List Line) → Packs text lines → ⊥
