-- What bytes say of a body in chunks, read on from a place: the body's bytes, its trailers, and what then
-- follows. It doesn't depend on how the bytes were cut.
use Rattle.std.specs.Prelude.{ℕ, List, [], ◌∷◌, ◌++◌}
use Rattle.model_h1.specs.Place.{Place, in_bytes, in_section, done, broken, step}

-- the body goes on, has ended in front of these bytes, or is broken
pub data Ending : Type 0 where
  goes_on is_broken : Ending
  ends_before : List ℕ → Ending

-- trailers is the text of the trailer lines, from this place on
pub record Reading : Type 0 where
  pub body : List ℕ
  pub trailers : List ℕ
  pub ending : Ending

-- nothing but how it ends
abbrev pub only : Ending → Reading
only ending = record { body = []; trailers = []; ending = ending }

-- a reading with bytes in front of its body, or of its trailers
abbrev pub with_bytes : List ℕ → Reading → Reading
with_bytes bytes r = record r { body = bytes ++ r.body }

abbrev pub with_trailers : List ℕ → Reading → Reading
with_trailers text r = record r { trailers = text ++ r.trailers }

-- what a byte between two places adds: a byte of a chunk, a byte of a trailer line, or nothing
abbrev pub noted : Place → Place → ℕ → Reading → Reading
noted (in_bytes more) next b r = with_bytes (b ∷ []) r
noted (in_section at lines room) (in_section at' lines' room') b r = with_trailers (b ∷ []) r
noted place next b r = r

-- what no further byte says
abbrev pub at_end : Place → Ending
at_end done = ends_before []
at_end broken = is_broken
at_end place = goes_on

-- what the bytes say from a place on
unfoldable pub read : Place → List ℕ → Reading
read place [] = only (at_end place)
read done (b ∷ bytes) = only (ends_before (b ∷ bytes))
read place (b ∷ bytes) = noted place (step place b) b (read (step place b) bytes)
