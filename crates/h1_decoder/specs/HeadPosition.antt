-- How far a search for a head has come in a buffer that grows.
use Rattle.std.specs.Prelude.{ℕ, ◌≤◌, List, length, take}
use Rattle.model_h1.specs.HeadPiece.{AreBlankLines, HasNoHeadPiece}

-- up to start are empty lines, and up to scanned is no whole head
pub record HeadPosition : Type 0 where
  pub start : ℕ
  pub scanned : ℕ

-- The position is one in these bytes. It speaks of the first `scanned` of them alone, so it stays one
-- when others follow.
pub record HasScanned (position : HeadPosition) (bytes : List ℕ) : Type 0 where
  pub ordered : position.start ≤ position.scanned
  pub in_range : position.scanned ≤ length bytes
  pub blank : AreBlankLines (take position.start bytes)
  pub no_head : HasNoHeadPiece (take position.scanned bytes)

-- where as many bytes are there as it has seen, it is a position in them
abbrev pub IsSeenIn : HeadPosition → List ℕ → Type 0
IsSeenIn position bytes = position.scanned ≤ length bytes → HasScanned position bytes
