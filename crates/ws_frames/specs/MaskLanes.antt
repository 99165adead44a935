-- How far a payload is masked.
use Rattle.std.specs.Prelude.{◌≡◌, ℕ, ◌≤◌, List, ◌++◌, length, take, drop}
use Rattle.model_h1.specs.FrameText.{unmask}

-- the mask eight times
abbrev pub lanes_of : List ℕ → List ℕ
lanes_of mask = mask ++ mask ++ mask ++ mask ++ mask ++ mask ++ mask ++ mask

-- the bytes are those of the payload all, of which the first ones, as many as at, are masked
pub record IsMaskedUpTo (mask all : List ℕ) (at : ℕ) (bytes : List ℕ) : Type 0 where
  pub within : at ≤ length all
  pub so_far : bytes ≡ unmask mask 0 (take at all) ++ drop at all
