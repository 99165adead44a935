-- Requests that were sent one after another, and what a server reads of them.
use Rattle.std.specs.Prelude.{◌≡◌, ℕ, ◌+◌, ◌<◌, ◌≤◌, Bool, true, nat_le, ⊤, List, [], ◌∷◌, ◌++◌, length}
use Rattle.model_h1.specs.Request.{Head, head_is}
use Rattle.model_h1.specs.RequestHead.{IsHeadOf}
use Rattle.model_h1.specs.Limits.{MAX_HEADER_LINES}
use Rattle.model_h1.specs.Handed.{Begins}
use Rattle.model_h1.specs.Parse.{Input, Message, content, ended_at}
use Rattle.model_h1.specs.Runs.{Run, run_bytes}
use Rattle.model_ends.specs.PlainExchange.{carried_by}
use Rattle.model_client.specs.RequestText.{RequestGiven, asked_shape, head_said, given_request_text, body_sent}
use Rattle.model_ends.specs.SentAnswer.{IsBodyText, stop_of}

-- a request as it was sent: the texts of its head and of its body, what the head says, and the bytes that the body carries
pub record SentRequest : Type 0 where
  pub head : List ℕ
  pub body : List ℕ
  pub says : Head
  pub bytes : List ℕ

-- the head is read back, within 96 lines and the server's hold size, and its lines frame the body that was written
pub record IsAsked (hold_size : ℕ) (s : SentRequest) : Type 0 where
  pub back : IsHeadOf s.head s.says
  pub blank : back.text.blank ≡ []
  pub few : length s.says.headers ≤ MAX_HEADER_LINES
  pub fits : length s.head ≤ hold_size
  pub body : IsBodyText s.says.body s.body s.bytes

-- a request as its client sends it
abbrev pub sent_request : RequestGiven → SentRequest
sent_request g =
    let shape = asked_shape g.size in record {
      head = given_request_text g;
      body = body_sent shape g.pieces;
      says = head_said g.head shape g.size g.kind g.moment;
      bytes = carried_by shape g.pieces;
    }

-- all texts, one after another
abbrev pub asked_text : List SentRequest → List ℕ
asked_text [] = []
asked_text (s ∷ ss) = s.head ++ (s.body ++ asked_text ss)

-- The request that stands at the place is read as it was sent: its head, all bytes of its body, and where that ends, without
-- trailers.
pub record IsServedAs (i : Input) (place : ℕ) (m : Message) (s : SentRequest) : Type 0 where
  pub head : m.reading ≡ head_is s.says
  pub start : m.body_start ≡ place + length s.head
  pub runs : List Run
  pub body : m.body ≡ content runs (ended_at (place + length s.head + length s.body) [])
  pub carried : run_bytes i.bytes runs ≡ s.bytes

-- so are all from the place on: each begins where the one before it ends, and the last ends where the bytes end
abbrev pub AreServedAs : Input → ℕ → List Message → List SentRequest → Type 0
AreServedAs i place [] [] = place ≡ length i.bytes
AreServedAs i place (m ∷ ms) (s ∷ ss) = IsServedAs i place m s × AreServedAs i (place + length s.head + length s.body) ms ss
AreServedAs i place ms ss = ⊥

-- all bytes of the request that stands at the place came
abbrev pub has_come : Input → ℕ → SentRequest → Bool
has_come i place s = nat_le (place + length s.head + length s.body) (length i.bytes)

-- The request that stands at the place, of which the first bytes came, and its whole head among them, is read as far as it
-- came: its head, and its end where all of it came. Else it is open, or cut where the input has ended, and the bytes of its
-- body are a beginning of those that it carries.
pub record IsBegunServed (i : Input) (place : ℕ) (m : Message) (s : SentRequest) : Type 0 where
  pub head : m.reading ≡ head_is s.says
  pub start : m.body_start ≡ place + length s.head
  pub within : m.body_start ≤ length i.bytes
  pub runs : List Run
  pub body : m.body ≡ content runs (stop_of (has_come i place s) i.ended (place + length s.head + length s.body))
  pub begins : Begins (run_bytes i.bytes runs) s.bytes
  pub carried : has_come i place s ≡ true → run_bytes i.bytes runs ≡ s.bytes

-- so are all that have a whole head
abbrev pub AreBegunServed : Input → ℕ → List Message → List SentRequest → Type 0
AreBegunServed i place [] [] = ⊤
AreBegunServed i place [] (s ∷ ss) = length i.bytes < place + length s.head
AreBegunServed i place (m ∷ ms) [] = ⊥
AreBegunServed i place (m ∷ ms) (s ∷ ss) = IsBegunServed i place m s × AreBegunServed i (place + length s.head + length s.body) ms ss
