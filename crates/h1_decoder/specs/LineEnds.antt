-- Line ends by their places in a buffer, as the scan finds them.
use Rattle.std.specs.Prelude.{◌≡◌, ℕ, ◌+◌, ◌<◌, ◌≤◌, ◌⊎◌, List, length, slice_index}
use Rattle.httparse.specs.Ascii.{line_feed, carriage_return}

-- a line end stands from start to end: LF or CR LF
pub record IsLineEndAt (bytes : List ℕ) (start end : ℕ) : Type 0 where
  pub in_range : end ≤ length bytes
  pub reads : ((end ≡ start + 1) × (slice_index bytes start ≡ line_feed)) ⊎ ((end ≡ start + 2) × (slice_index bytes start ≡ carriage_return) × (slice_index bytes (start + 1) ≡ line_feed))

-- the byte at place is a line feed, and behind it an empty line ends at end
pub record IsEmptyLineAt (bytes : List ℕ) (place end : ℕ) : Type 0 where
  pub feed : slice_index bytes place ≡ line_feed
  pub line : IsLineEndAt bytes (place + 1) end

-- an empty line behind a line feed that stands at from or later ends at end
abbrev pub HasEnd : List ℕ → ℕ → ℕ → Type 0
HasEnd bytes from end = (place : ℕ) × (from ≤ place) × IsEmptyLineAt bytes place end

-- there is no such end
abbrev pub HasNoEnd : List ℕ → ℕ → Type 0
HasNoEnd bytes from = (end : ℕ) → ¬ (HasEnd bytes from end)

-- it is the first such end
pub record IsFirstEnd (bytes : List ℕ) (from end : ℕ) : Type 0 where
  pub here : HasEnd bytes from end
  pub first : (e : ℕ) → e < end → ¬ (HasEnd bytes from e)
