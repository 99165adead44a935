-- What a decoder of messages has to know of the heads that it reads.
use Rattle.std.specs.Prelude.{◌≡◌, ℕ, List}
use Rattle.http_types.specs.declared.error.ParseError.{ParseError}
use Rattle.model_h1.specs.Request.{BodyKind, Fault}

-- what a piece is read as: a head, or what is wrong with it
pub data Reading (H : Type 0) : Type 0 where
  says_head : H → Reading H
  says_fault : Fault → Reading H

-- What a piece says, what an item says of such a head, where its body ends, and why a piece is refused, by the name of the
-- error.
pub record Kind (I : Type 0) : Type 1 where
  pub Head : Type 0
  pub reads : List ℕ → Reading Head → Type 0
  pub says : I → Head → Type 0
  pub body : Head → BodyKind
  pub refuses : ParseError → List ℕ → Type 0

-- a piece has at most one reading
abbrev pub IsOneReading : {I : Type 0} → Kind I → Type 0
IsOneReading k = (piece : List ℕ) (a b : Reading k.Head) → k.reads piece a → k.reads piece b → a ≡ b
