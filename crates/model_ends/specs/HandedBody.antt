-- What a reader hands out of a body that was sent to it: pieces of its bytes, in order, and then how it stops.
use Rattle.std.specs.Prelude.{◌≡◌, ℕ, ◌<◌, Bool, true, List, [], ◌∷◌, ◌++◌, length, map, ⊤}
use Rattle.std.specs.List.{AllByRecursion}
use Rattle.model_h1.specs.Event.{incomplete}
use Rattle.model_h1.specs.Handed.{Item, item_bytes, item_end, item_fault, Begins}
use Rattle.model_client.specs.RequestText.{joined}

-- What follows the pieces: nothing yet; the body's end, which comes behind all its bytes, and only where it was sent to its
-- end; or, where the reader's input has ended, that it is incomplete. Nothing follows either, and no trailers come.
abbrev pub IsStop : Bool → Bool → List ℕ → List (List ℕ) → List Item → Type 0
IsStop has_ended is_whole bytes pieces [] = ⊤
IsStop has_ended is_whole bytes pieces (item_end ∷ []) = (is_whole ≡ true) × (joined pieces ≡ bytes)
IsStop has_ended is_whole bytes pieces (item_fault incomplete ∷ []) = has_ended ≡ true
IsStop has_ended is_whole bytes pieces last = ⊥

-- The items are those of a body that carries these bytes, and was sent to its end or is still under way.
pub record IsHandedBody (has_ended is_whole : Bool) (bytes : List ℕ) (items : List Item) : Type 0 where
  pub pieces : List (List ℕ)
  pub last : List Item
  pub are : items ≡ map item_bytes pieces ++ last
  pub some : AllByRecursion (λ piece. 0 < length piece) pieces
  pub begins : Begins (joined pieces) bytes
  pub stops : IsStop has_ended is_whole bytes pieces last
