-- That bytes say the same.
use Rattle.std.specs.Prelude.{◌≡◌, List, [], ◌∷◌, ⊤}
use Rattle.h1_codec.specs.Kind.{Kind}
use Rattle.h1_codec.specs.FramedMessages.{Part, Messages}

-- item by item, the same head is said, and the same came of its body
abbrev pub SayTheSame : {I : Type 0} → Kind I → List (I × Part) → List (I × Part) → Type 0
SayTheSame k [] [] = ⊤
SayTheSame k (x ∷ xs) (y ∷ ys) = ((head : k.Head) × k.says x.0 head × k.says y.0 head × (x.1 ≡ y.1)) × SayTheSame k xs ys
SayTheSame k xs ys = ⊥

-- the same in all parts
pub record AreTheSame {I : Type 0} (k : Kind I) (s t : Messages I) : Type 0 where
  pub part : s.part ≡ t.part
  pub messages : SayTheSame k s.messages t.messages
  pub stop : s.stop ≡ t.stop
