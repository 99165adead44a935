-- Where the bytes of a body in chunks stand.
use Rattle.std.specs.Prelude.{ℕ, ◌+◌, List, [], ◌∷◌, length, min, nat_lt, if◌then◌else◌, flat_map, slice_range}
use Rattle.model_h1.specs.ChunkedText.{Segment, segment_text}

-- the bytes from start up to end are body bytes
pub record Run : Type 0 where
  pub start : ℕ
  pub end : ℕ

-- the places of the segments' bytes, where the first segment begins at this place
unfoldable pub segment_runs : ℕ → List Segment → List Run
segment_runs place [] = []
segment_runs place (s ∷ more) =
    let start = place + length s.line in
    record { start = start; end = start + length s.bytes } ∷ segment_runs (place + length (segment_text s)) more

-- the runs as far as so many bytes reach; those with no byte there are left out
unfoldable pub cut_runs : ℕ → List Run → List Run
cut_runs len [] = []
cut_runs len (r ∷ rs) =
    if nat_lt r.start len then record { start = r.start; end = min r.end len } ∷ cut_runs len rs else []

-- the bytes of the runs, one after another
abbrev pub run_bytes : List ℕ → List Run → List ℕ
run_bytes bytes runs = flat_map (λ r. slice_range bytes r.start r.end) runs
