-- What comes next in the bytes of a body in chunks, from a place: the rest of a chunk as far as it is there,
-- the body's end, that it is broken, or nothing yet.
use Rattle.std.specs.Prelude.{ℕ, ◌+◌, ◌-◌, List, [], ◌∷◌, ◌++◌, length, take, drop, nat_lt, if◌then◌else◌}
use Rattle.model_h1.specs.Place.{Place, in_bytes, bytes_end, in_section, done, broken, step}
use Rattle.model_h1.specs.Reading.{Reading, is_broken, ends_before, only, with_bytes, read}

-- bytes of a chunk, the place behind them and the bytes that follow; the place where all bytes lead; the bytes
-- behind the body's end
pub data Next : Type 0 where
  chunk : List ℕ → Place → List ℕ → Next
  waits : Place → Next
  ended : List ℕ → Next
  breaks : Next

-- what comes next, and the bytes of trailer lines in front of it
pub record Taken : Type 0 where
  pub trailers : List ℕ
  pub next : Next

abbrev pub nothing_noted : Next → Taken
nothing_noted next = record { trailers = []; next = next }

-- the bytes of a chunk that are there, of which so many follow the first
abbrev pub of_chunk : ℕ → List ℕ → Next
of_chunk more bytes =
    if nat_lt more (length bytes) then chunk (take (more + 1) bytes) bytes_end (drop (more + 1) bytes)
    else chunk bytes (in_bytes (more - length bytes)) []

-- a byte of a trailer line is noted in front
abbrev pub noted_line : Place → Place → ℕ → Taken → Taken
noted_line (in_section at lines room) (in_section at' lines' room') b t = record t { trailers = b ∷ t.trailers }
noted_line place next b t = t

-- what no byte leads to
abbrev pub stops_at : Place → Next
stops_at done = ended []
stops_at broken = breaks
stops_at place = waits place

-- what comes next
unfoldable pub take_next : Place → List ℕ → Taken
take_next place [] = nothing_noted (stops_at place)
take_next done (b ∷ bytes) = nothing_noted (ended (b ∷ bytes))
take_next broken (b ∷ bytes) = nothing_noted breaks
take_next (in_bytes more) (b ∷ bytes) = nothing_noted (of_chunk more (b ∷ bytes))
take_next place (b ∷ bytes) = noted_line place (step place b) b (take_next (step place b) bytes)

-- what is read where this came next, whatever bytes follow
abbrev pub says : Next → List ℕ → Reading
says (chunk bytes place rest) z = with_bytes bytes (read place (rest ++ z))
says (waits place) z = read place z
says (ended rest) z = only (ends_before (rest ++ z))
says breaks z = only is_broken
