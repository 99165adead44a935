-- One of two bodies.
use Rattle.std.specs.Prelude.{ℕ, Option, List, ⊤}
use Rattle.http_bodies.specs.declared.body.either.EitherBody.{EitherBody}
use Rattle.http_bodies.specs.declared.body.either.EitherBody.TheVariants.{Left, Right}
use Rattle.http_bodies.specs.Giving.{Giving}

-- what its side gives
abbrev pub either : {L R : Type 0} → (L → Giving) → (R → Giving) → EitherBody L R → Giving
either left right (Left body) = left body
either left right (Right body) = right body

-- what its side has at hand
abbrev pub either_hand : {L R : Type 0} → (L → Option (List ℕ)) → (R → Option (List ℕ)) → EitherBody L R → Option (List ℕ)
either_hand left right (Left body) = left body
either_hand left right (Right body) = right body

-- the other one is of the same side
abbrev pub IsOfSide : {L R : Type 0} → EitherBody L R → EitherBody L R → Type 0
IsOfSide (Left body) (Left other) = ⊤
IsOfSide (Left body) (Right other) = ⊥
IsOfSide (Right body) (Left other) = ⊥
IsOfSide (Right body) (Right other) = ⊤
