-- What a scan of the bytes of a body in chunks says.
use Rattle.std.specs.Prelude.{◌≡◌, ◌⊎◌, ℕ, ◌≤◌, true, false, List, [], ◌∷◌, ◌++◌, length, take, drop, slice_range, ⊤}
use Rattle.model_h1.specs.Place as model
use Rattle.model_h1.specs.TakeNext.{Next, chunk, waits, ended, breaks, Taken, take_next}
use Rattle.h1_payload.specs.declared.place.Place.{Place}
use Rattle.h1_payload.specs.declared.scan.Found.{Found}
use Rattle.h1_payload.specs.declared.scan.Found.TheVariants as found
use Rattle.h1_payload.specs.declared.scan.Scan.{Scan}
use Rattle.h1_payload.specs.Places.{place_of, is_quiet, is_section}

-- what was found comes next in the bytes
abbrev pub next_of : List ℕ → Found → Next
next_of bytes (found.Chunk at end place) = chunk (slice_range bytes at end) (place_of place) (drop end bytes)
next_of bytes (found.Waits place) = waits (place_of place)
next_of bytes (found.Ends at) = ended (drop at bytes)
next_of bytes found.Breaks = breaks

-- the same, with the bytes of trailer lines in front of it
abbrev pub told : List ℕ → Scan → Taken
told bytes s = record { trailers = slice_range bytes s.from s.to; next = next_of bytes s.found }

-- what was found lies within so many bytes
abbrev pub IsFoundWithin : ℕ → Found → Type 0
IsFoundWithin len (found.Chunk at end place) = (at ≤ end) × (end ≤ len)
IsFoundWithin len (found.Waits place) = ⊤
IsFoundWithin len (found.Ends at) = at ≤ len
IsFoundWithin len found.Breaks = ⊤

-- no bytes of a chunk were found
abbrev pub IsNoChunk : Found → Type 0
IsNoChunk (found.Chunk at end place) = ⊥
IsNoChunk what = ⊤

-- without trailer lines, or without bytes of a chunk
abbrev pub IsAlone : Scan → Type 0
IsAlone s = (s.from ≡ s.to) ⊎ IsNoChunk s.found

-- and so do the trailer lines, which stand in front of no chunk
pub record IsWithin (len : ℕ) (s : Scan) : Type 0 where
  pub alone : IsAlone s
  pub ordered : s.from ≤ s.to
  pub lines : s.to ≤ len
  pub found : IsFoundWithin len s.found

-- bytes of trailer lines in front of what is taken
abbrev pub noting : List ℕ → Taken → Taken
noting text t = record t { trailers = text ++ t.trailers }

-- so many bytes that are none of a chunk or of a trailer line were passed, up to the first that is, or to the end
pub record IsPassed (start : Place) (bytes : List ℕ) (at : ℕ) (place : Place) : Type 0 where
  pub within : at ≤ length bytes
  pub same : take_next (place_of start) bytes ≡ take_next (place_of place) (drop at bytes)
  pub all : is_quiet (place_of place) ≡ true → at ≡ length bytes

-- where there is a byte, it leads out of the section
abbrev pub EndsLines : model.Place → List ℕ → Type 0
EndsLines place [] = ⊤
EndsLines place (b ∷ bytes) = is_section (model.step place b) ≡ false

-- so many bytes of trailer lines were passed, up to the first that is none, or to the end
pub record IsLinesPassed (start : model.Place) (bytes : List ℕ) (count : ℕ) (place : Place) : Type 0 where
  pub within : count ≤ length bytes
  pub in_lines : is_section (place_of place) ≡ true
  pub same : take_next start bytes ≡ noting (take count bytes) (take_next (place_of place) (drop count bytes))
  pub all : EndsLines (place_of place) (drop count bytes)
