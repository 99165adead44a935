-- No body, bytes, or a body of another kind.
use Rattle.std.specs.Prelude.{ℕ, Option, Some, None, List, [], Result, Ok, Err}
use Rattle.http_bodies.specs.declared.body.boxed.AnyBody.{AnyBody}
use Rattle.http_bodies.specs.declared.body.boxed.AnyBody.TheVariants as any
use Rattle.http_bodies.specs.Giving.{Giving}
use Rattle.http_bodies.specs.Values.{holds, holds_none}

-- what it gives, where the other kind gives this
abbrev pub any_gives : {E : Type 0} → (E → Giving) → AnyBody E → Giving
any_gives gives any.None = holds_none
any_gives gives (any.Bytes bytes) = holds bytes
any_gives gives (any.Other body) = gives body

-- the bytes that it has at hand; of a body of another kind none are known
abbrev pub any_hand : {E : Type 0} → AnyBody E → Option (List ℕ)
any_hand any.None = Some []
any_hand (any.Bytes bytes) = Some bytes
any_hand (any.Other body) = None

-- these bytes, or else the body itself
abbrev pub tried : {E : Type 0} → AnyBody E → Result (List ℕ) (AnyBody E)
tried any.None = Ok []
tried (any.Bytes bytes) = Ok bytes
tried (any.Other body) = Err (any.Other body)
