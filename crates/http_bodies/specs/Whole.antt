-- All of a body, as its bytes and how it ends.
use Rattle.std.specs.Prelude.{◌≡◌, ℕ, Option, Some, None, List, [], ◌∷◌, ◌++◌, ⊤}
use Rattle.http_bodies.specs.Giving.{Given, chunk, fault}

-- what a body comes to: bytes and the end, or bytes and a fault; or it is unknown
pub data Whole : Type 0 where
  unknown : Whole
  ends : List ℕ → Whole
  fails : List ℕ → ℕ → Whole

-- with these bytes in front
abbrev pub after : List ℕ → Whole → Whole
after front unknown = unknown
after front (ends bytes) = ends (front ++ bytes)
after front (fails bytes n) = fails (front ++ bytes) n

-- the chunks up to the first fault
abbrev pub content : List Given → Whole
content [] = ends []
content (chunk piece ∷ more) = after piece (content more)
content (fault n ∷ more) = fails [] n

-- the bytes that came and those that are still to come
abbrev pub whole : List ℕ → Option (List Given) → Whole
whole came None = unknown
whole came (Some coming) = after came (content coming)

-- these are all bytes up to the end, if that is known
abbrev pub AreAll : Whole → List ℕ → Type 0
AreAll unknown bytes = ⊤
AreAll (ends all) bytes = bytes ≡ all
AreAll (fails all n) bytes = ⊥

-- a body that doesn't say which bytes it has at hand
abbrev pub none_at_hand : {B : Type 0} → B → Option (List ℕ)
none_at_hand body = None
