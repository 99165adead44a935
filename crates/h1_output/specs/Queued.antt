-- What a queue of segments holds, as its callers see it.
use Rattle.std.specs.Prelude.{◌≡◌, ℕ, ◌+◌, ◌<◌, ◌≤◌, List, [], ◌++◌, length, take, drop}
use Rattle.model_h1.specs.Runs.{Run}
use Rattle.model_h1.specs.Parse.{run_between}
use Rattle.model_state.specs.Runs.{runs_behind, first_segment}

-- The bytes that wait, and where those of each piece stand among them. A piece has some bytes.
pub record Queued : Type 0 where
  pub bytes : List ℕ
  pub marks : List Run

abbrev pub nothing : Queued
nothing = record { bytes = []; marks = [] }

-- a text, or a piece, goes behind the others; a piece without bytes is none
abbrev pub with_text : List ℕ → Queued → Queued
with_text text q = record q { bytes = q.bytes ++ text }

abbrev pub with_piece : List ℕ → Queued → Queued
with_piece bytes q =
    record { bytes = q.bytes ++ bytes; marks = q.marks ++ run_between (length q.bytes) (length q.bytes + length bytes) }

-- the first bytes are gone
abbrev pub behind : ℕ → Queued → Queued
behind n q = record { bytes = drop n q.bytes; marks = runs_behind n q.marks }

-- the first segment
abbrev pub front_of : Queued → List ℕ
front_of q = first_segment q.marks q.bytes

-- a beginning of the bytes, with some where there are some
pub record IsStretch (all front : List ℕ) : Type 0 where
  pub begins : take (length front) all ≡ front
  pub fits : length front ≤ length all
  pub some : 0 < length all → 0 < length front
