-- What is left of a body whose trailer section has all its text so far, and that pulls give some.
use Rattle.std.specs.Prelude.{◌≡◌, ℕ, ◌<◌, List, ◌++◌, length, ⊤}
use Rattle.std.specs.List.{AllByRecursion}
use Rattle.model_h1.specs.ChunkedText.{Trailer, IsTrailer, section_text}
use Rattle.model_h1.specs.Place.{Place}
use Rattle.model_h1.specs.Reading.{ends_before, read}
use Rattle.model_h1.specs.Event.{Outcome}
use Rattle.model_h1.specs.Event as on
use Rattle.model_state.specs.Kept.{Rest, no_rest, raw_rest, fixed_rest, chunks_rest, frames_rest}

-- whatever follows, where the body ends with it, this text and what is read of the section are trailer lines
abbrev pub HasLines : Place → List ℕ → Type 0
HasLines place section =
    (z rest : List ℕ) → (read place z).ending ≡ ends_before rest
    → (lines : List Trailer) × AllByRecursion IsTrailer lines × (section_text lines ≡ section ++ (read place z).trailers)

-- a rest of which no trailer line was dropped: a length is some, and a section's text is whole
abbrev pub Fits : Rest → Type 0
Fits no_rest = ⊤
Fits raw_rest = ⊤
Fits (fixed_rest n) = 0 < n
Fits (chunks_rest place section) = HasLines place section
Fits (frames_rest under_way limit) = ⊥

-- an outcome of a pull that gives bytes, or trailers, gives some
abbrev pub GivesSome : Outcome → Type 0
GivesSome (on.bytes bytes) = 0 < length bytes
GivesSome (on.trailers headers) = 0 < length headers
GivesSome o = ⊤
