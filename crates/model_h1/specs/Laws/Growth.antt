-- How a parse grows when bytes follow: what was parsed stays, and the last body may go on.
use Rattle.std.specs.Prelude.{◌≡◌, ℕ, Bool, true, false, List, [], ◌∷◌, None, ⊤}
use Rattle.model_h1.specs.Parse.{Message, Body, content, frames, still_open}
use Rattle.model_h1.specs.Handed.{Begins, body_bytes, last_items}

-- bytes that follow may belong to the body
abbrev pub may_grow : Body → Bool
may_grow (content runs still_open) = true
may_grow (frames placed None) = true
may_grow _ = false

-- The body of a message from the first bytes, and from all: its bytes, and what follows these, come first, and a
-- body that can't grow is the same.
pub record BodyGrows (front all : List ℕ) (a b : Body) : Type 0 where
  pub bytes : Begins (body_bytes front a) (body_bytes all b)
  pub items : Begins (last_items a) (last_items b)
  pub closed : may_grow a ≡ false → (a ≡ b) × (body_bytes front a ≡ body_bytes all b)

-- the message keeps its reading and its place
pub record MessageGrows (front all : List ℕ) (m n : Message) : Type 0 where
  pub reading : m.reading ≡ n.reading
  pub body_start : m.body_start ≡ n.body_start
  pub body : BodyGrows front all m.body n.body

-- each message grows to the one in its place, and others may follow
abbrev pub GrowTo : List ℕ → List ℕ → List Message → List Message → Type 0
GrowTo front all [] ns = ⊤
GrowTo front all (m ∷ ms) [] = ⊥
GrowTo front all (m ∷ ms) (n ∷ ns) = MessageGrows front all m n × GrowTo front all ms ns
