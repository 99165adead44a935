-- How bytes stand to the texts of bodies in chunks: a whole one and what follows it, the beginning of one,
-- or neither.
use Rattle.std.specs.Prelude.{◌≡◌, ℕ, ◌<◌, ◌≤◌, List, ◌++◌, length, take}
use Rattle.model_h1.specs.ChunkedText.{Trailer, ChunkedText, chunked_text, IsChunkedText}
use Rattle.model_h1.specs.Runs.{Run, segment_runs, cut_runs}

-- a whole body of so many bytes with these trailers, the beginning of a body, or neither
pub data Chunked : Type 0 where
  whole : ℕ → List Trailer → Chunked
  unfinished not_chunked : Chunked

-- the bytes are the text of this body, whole
abbrev pub Spells : List ℕ → ChunkedText → Type 0
Spells bytes t = IsChunkedText t × (bytes ≡ chunked_text t)

-- the bytes are the text of this body without its end
abbrev pub IsBeginning : List ℕ → ChunkedText → Type 0
IsBeginning bytes t = (more : List ℕ) × (0 < length more) × Spells (bytes ++ more) t

-- a longest front of the bytes that begins a body
pub record IsLongestBeginning (bytes : List ℕ) (len : ℕ) (t : ChunkedText) : Type 0 where
  pub within : len < length bytes
  pub begins : IsBeginning (take len bytes) t
  pub longest : (n : ℕ) → len < n → n ≤ length bytes → (other : ChunkedText) → ¬ (IsBeginning (take n bytes) other)

-- What the bytes are, and the places of the body's bytes in them, as far as the text is that of a body.
abbrev pub IsChunked : List ℕ → Chunked → List Run → Type 0
IsChunked bytes (whole k trailers) runs =
    (t : ChunkedText) × (k ≤ length bytes) × Spells (take k bytes) t × (trailers ≡ t.trailers) × (runs ≡ segment_runs 0 t.segments)
IsChunked bytes unfinished runs =
    (t : ChunkedText) × IsBeginning bytes t × (runs ≡ cut_runs (length bytes) (segment_runs 0 t.segments))
IsChunked bytes not_chunked runs =
    (t : ChunkedText) × (len : ℕ) × IsLongestBeginning bytes len t
    × ((k : ℕ) (other : ChunkedText) → ¬ (Spells (take k bytes) other))
    × (runs ≡ cut_runs len (segment_runs 0 t.segments))
