-- What a framed transport keeps.
use Rattle.std.specs.Prelude.{ℕ, List}

-- the transport, the codec, what was read and not decoded, and what was written and not sent
pub record Parts (T U : Type 0) : Type 0 where
  pub io : T
  pub codec : U
  pub unread : List ℕ
  pub unsent : List ℕ
