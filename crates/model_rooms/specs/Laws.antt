-- Words that the laws alone use: who reads the definitions needs none of them.
pub mod Examples
use Rattle.std.specs.Prelude.{◌≡◌, ℕ, List, [], ◌∷◌, ⊤}
use Rattle.model_h1.specs.Event.{Event, Outcome}
use Rattle.model_h1.specs.Event as on
use Rattle.model_h1.specs.Sums.{Step}
use Rattle.model_rooms.specs.Due.{Said}

-- a message that is sent isn't refused
abbrev pub UnlessRefused : Event → Outcome → Type 0
UnlessRefused (on.send message) outcome = outcome ≡ on.done
UnlessRefused _ outcome = ⊤

abbrev pub IsNoRefusal : Step → Type 0
IsNoRefusal s = UnlessRefused s.event s.outcome

-- the first list has some of the messages of the second one, in their order
pub data IsPartOf : List Said → List Said → Type 0 where
  ends : IsPartOf [] []
  skips : (m : Said) (part all : List Said) → IsPartOf part all → IsPartOf part (m ∷ all)
  takes : (m : Said) (part all : List Said) → IsPartOf part all → IsPartOf (m ∷ part) (m ∷ all)
