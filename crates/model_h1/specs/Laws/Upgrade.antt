-- How the parse before a WebSocket is accepted stands to the one behind it.
use Rattle.std.specs.Prelude.{◌≡◌, Bool, true, false, List, [], ◌∷◌, ⊤}
use Rattle.model_h1.specs.Request.{Reading, head_is, is_raw_kind}
use Rattle.model_h1.specs.Parse.{Message}

-- the message's body goes on to the end of the input
abbrev pub has_raw_body : Reading → Bool
has_raw_body (head_is h) = is_raw_kind h.body
has_raw_body _ = false

-- the message stays, but for a raw body
pub record StaysUpgraded (m n : Message) : Type 0 where
  pub reading : m.reading ≡ n.reading
  pub body_start : m.body_start ≡ n.body_start
  pub body : has_raw_body m.reading ≡ false → m.body ≡ n.body

-- each message stays, and a raw body is the last one's
abbrev pub StayUpgraded : List Message → List Message → Type 0
StayUpgraded [] [] = ⊤
StayUpgraded [] (n ∷ ns) = ⊥
StayUpgraded (m ∷ ms) [] = ⊥
StayUpgraded (m ∷ ms) (n ∷ ns) =
    StaysUpgraded m n × (has_raw_body m.reading ≡ true → ms ≡ []) × StayUpgraded ms ns
