-- A decoder that is fed in any pieces gives what the whole bytes say.
use Rattle.std.specs.Prelude.{ℕ, List, [], ◌∷◌, ◌++◌, Option, Some, None, ⊤}

-- Where a decoder D stands, bytes are read as a value of R, what they say; an item I that it answered can be put in
-- front of such a value.
module _ {D I R : Type 0} (reads : D → List ℕ → R → Type 0) (given : I → R → R) where
  -- whatever follows: as the new decoder reads it behind the rest, the old one reads it behind the bytes, with the front
  abbrev pub GoesOn : D → List ℕ → (R → R) → D → List ℕ → Type 0
  GoesOn old bytes front new rest = (z : List ℕ) (r : R) → reads new (rest ++ z) r → reads old (bytes ++ z) (front r)

  -- what is said, with an answered item in front
  abbrev pub in_front : Option I → R → R
  in_front None r = r
  in_front (Some item) r = given item r

-- whatever the bytes say from where the decoder stands, this holds of it
abbrev pub OnlySays : {D R : Type 0} → (D → List ℕ → R → Type 0) → D → List ℕ → (R → Type 0) → Type 0
OnlySays {D} {R} reads d bytes P = (said : R) → reads d bytes said → P said

-- a call of a decoder: the bytes that had come since the one before, the answer, and the decoder and bytes it left
pub record Fed (D I : Type 0) : Type 0 where
  pub came : List ℕ
  pub answer : Option I
  pub decoder : D
  pub rest : List ℕ

module _ {D I R : Type 0} (reads : D → List ℕ → R → Type 0) (given : I → R → R) where
  -- each call goes on from what the one before it left
  abbrev pub AreFed : D → List ℕ → List (Fed D I) → Type 0
  AreFed d left [] = ⊤
  AreFed d left (c ∷ calls) =
      GoesOn reads given d (left ++ c.came) (in_front reads given c.answer) c.decoder c.rest × AreFed c.decoder c.rest calls

  -- behind the last call this is read
  abbrev pub LastReads : D → List ℕ → List (Fed D I) → List ℕ → R → Type 0
  LastReads d left [] z r = reads d (left ++ z) r
  LastReads d left (c ∷ calls) z r = LastReads c.decoder c.rest calls z r

  -- all answers in front of what is said
  abbrev pub all_told : List (Fed D I) → R → R
  all_told [] r = r
  all_told (c ∷ calls) r = in_front reads given c.answer (all_told calls r)

-- all bytes that came
abbrev pub all_came : {D I : Type 0} → List (Fed D I) → List ℕ
all_came [] = []
all_came (c ∷ calls) = c.came ++ all_came calls
