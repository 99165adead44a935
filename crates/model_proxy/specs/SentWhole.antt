-- A request that was read of a client's bytes and is sent on whole.
use Rattle.std.specs.Prelude.{◌≡◌, ℕ, ◌<◌, ◌≤◌, ◌^◌, true, List, length}
use Rattle.std.specs.List.{AllByRecursion}
use Rattle.model_h1.specs.Limits.{MAX_HEADER_LINES, MAX_MOMENT}
use Rattle.model_h1.specs.RequestHead.{IsHeadOf}
use Rattle.model_h1.specs.Answer.{size_of}
use Rattle.model_client.specs.RequestText.{given_request_text, given_request_lines, joined}
use Rattle.model_proxy.specs.Edge.{IsCleanEdge}
use Rattle.model_proxy.specs.Forward.{is_forwardable, forwarded_size, Sent, forwarded}

-- What is told of its client can stand in lines; some text is that of its head; it can be sent on; and all of its body was taken, in pieces of
-- fewer than 2 ^ 64 bytes, before the year 10000. With the lines that a forwarder writes, its head has at most 96 lines and no more bytes than
-- a server holds.
pub record IsSentWhole (hold_size : ℕ) (s : Sent) : Type 0 where
  pub edge : IsCleanEdge s.edge
  pub piece : List ℕ
  pub read : IsHeadOf piece s.head
  pub forwardable : is_forwardable s.edge s.head ≡ true
  pub whole : s.is_whole ≡ true
  pub came : (n : ℕ) → forwarded_size s.head ≡ size_of n → length (joined s.pieces) ≡ n
  pub short : AllByRecursion (λ (piece : List ℕ). length piece < 2 ^ 64) s.pieces
  pub moment : s.moment < MAX_MOMENT
  pub few : length (given_request_lines (forwarded s)) ≤ MAX_HEADER_LINES
  pub held : length (given_request_text (forwarded s)) ≤ hold_size
