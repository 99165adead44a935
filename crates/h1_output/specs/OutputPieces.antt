-- How a queue keeps its bytes: pieces in order, and a buffer with all bytes that aren't shared.
use Rattle.std.specs.Prelude.{◌≡◌, ℕ, ◌+◌, ◌<◌, ◌≤◌, ◌==◌, List, [], ◌∷◌, ◌++◌, length, take, drop, min, if◌then◌else◌, All, Option, Some, None, option_to_list}
use Rattle.model_h1.specs.Runs.{Run}
use Rattle.h1_output.specs.Queued.{Queued}
use Rattle.h1_output.specs.declared.piece.Body.{Body}
use Rattle.h1_output.specs.declared.piece.Body.TheVariants.{Own, Shared}
use Rattle.h1_output.specs.declared.piece.Piece.{Piece}

-- how many bytes of the buffer, and how many shared ones, a piece has
abbrev pub own_len : Body → ℕ
own_len (Own n) = n
own_len (Shared b) = 0

abbrev pub shared_len : Body → ℕ
shared_len (Own n) = 0
shared_len (Shared b) = length b

abbrev pub body_len : Body → ℕ
body_len (Own n) = n
body_len (Shared b) = length b

-- a piece's bytes, where the buffer's stand in front
abbrev pub body_in : Body → List ℕ → List ℕ
body_in (Own n) own = take n own
body_in (Shared b) own = b

-- how far the pieces reach in the buffer, and how many shared bytes they have
unfoldable pub used : List Piece → ℕ
used [] = 0
used (p ∷ ps) = p.before + own_len p.body + used ps

unfoldable pub shared : List Piece → ℕ
shared [] = 0
shared (p ∷ ps) = shared_len p.body + shared ps

-- the bytes
unfoldable pub laid : List Piece → List ℕ → List ℕ
laid [] own = own
laid (p ∷ ps) own =
    take p.before own ++ (body_in p.body (drop p.before own) ++ laid ps (drop (p.before + own_len p.body) own))

-- the marks, where the first piece's framing begins at this place
unfoldable pub marks_from : ℕ → List Piece → List Run
marks_from place [] = []
marks_from place (p ∷ ps) =
    record { start = place + p.before; end = place + p.before + body_len p.body } ∷ marks_from (place + p.before + body_len p.body) ps

abbrev pub queued : List Piece → List ℕ → Queued
queued ps own = record { bytes = laid ps own; marks = marks_from 0 ps }

-- the first piece and those behind it; where there is no first there is none
abbrev pub in_row : Option Piece → List Piece → List Piece
in_row first rest = option_to_list first ++ rest

abbrev pub IsInRow : Option Piece → List Piece → Type 0
IsInRow None rest = rest ≡ []
IsInRow (Some p) rest = Unit {0}

-- what is left of a piece, in front of the others, where something is
abbrev pub with_rest : Body → List Piece → List Piece
with_rest body ps = if body_len body == 0 then ps else record { before = 0; body = body } ∷ ps

-- each piece has some bytes, and the buffer reaches behind the last one
abbrev pub HasBytes : Piece → Type 0
HasBytes p = 0 < body_len p.body

pub record IsLaid (ps : List Piece) (own : List ℕ) (marked many : ℕ) : Type 0 where
  pub some : All HasBytes ps
  pub fits : used ps ≤ length own
  pub marked_is : marked ≡ used ps
  pub many_is : many ≡ shared ps

-- ---- a copy of the first bytes

-- Of all bytes the first n came by, and those that there is room for were copied up to a place; behind it the buffer is what it was.
pub record IsCopied (all was now : List ℕ) (at n : ℕ) : Type 0 where
  pub at_is : at ≡ min (length was) n
  pub bytes : take at now ≡ take at all
  pub rest : drop at now ≡ drop at was
  pub size : length now ≡ length was
  pub within : n ≤ length all

-- What was to come of all bytes came by in part: from these pieces and these of the buffer to those that are left.
abbrev pub CopiesTo : List ℕ → ℕ → List Piece → List ℕ → List ℕ → ℕ → List Piece → List ℕ → Type 0
CopiesTo now at ps own then' at' qs own' =
    (all was : List ℕ) (n : ℕ) → IsCopied all was now at n → drop n all ≡ laid ps own
    → (k : ℕ) × IsCopied all was then' at' k × (drop k all ≡ laid qs own')
