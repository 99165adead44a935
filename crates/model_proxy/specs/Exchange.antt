-- The requests of a forwarder's client, what was taken of each, and where it was sent on. The newest stands first in all lists.
use Rattle.std.specs.Prelude.{ℕ, Bool, false, true, not, List, [], ◌∷◌, ◌++◌, length, map, filter, reverse, drop, ◌==◌, Option, Some, None}
use Rattle.model_h1.specs.Request.{Head, has_body}
use Rattle.model_h1.specs.Setting.{Setting}
use Rattle.model_h1.specs.Event.{Outcome}
use Rattle.model_h1.specs.Event as on
use Rattle.model_h1.specs.Sums.{Step, head_of}
use Rattle.model_client.specs.AnswerParse.{Received}
use Rattle.model_proxy.specs.Edge.{Edge}
use Rattle.model_proxy.specs.Forward.{Sent}
use Rattle.model_proxy.specs.Past.{ProxyStep, server_at, now, first_of}

-- A head that was handed out, the pieces of its body that were taken, whether its end was, and whether it broke or was cut.
pub record Pulled : Type 0 where
  pub head : Head
  pub pieces : List (List ℕ)
  pub is_ended : Bool
  pub is_broken : Bool

-- a head that was just handed out
abbrev pub unpulled : Head → Pulled
unpulled h = record { head = h; pieces = []; is_ended = not (has_body h.body); is_broken = false }

-- what an outcome brings of the body of the last head
abbrev pub pulled_by : Outcome → Pulled → Pulled
pulled_by (on.bytes bytes) p = record p { pieces = p.pieces ++ bytes ∷ [] }
pulled_by on.body_ended p = record p { is_ended = true }
pulled_by (on.broken_by fault) p = record p { is_broken = true }
pulled_by _ p = p

abbrev pub newest_pulled : Outcome → List Pulled → List Pulled
newest_pulled outcome [] = []
newest_pulled outcome (p ∷ ps) = pulled_by outcome p ∷ ps

abbrev pub with_head : Option Head → List Pulled → List Pulled
with_head None ps = ps
with_head (Some h) ps = unpulled h ∷ ps

-- the requests of a trace of the client's connection
unfoldable pub pulled : List Step → List Pulled
pulled [] = []
pulled (s ∷ before) = with_head (head_of s.outcome) (newest_pulled s.outcome (pulled before))

-- A request, and what became of it: the number of the server connection that it was sent on, if it was; how many steps came, up to
-- the one by which it was; and whether a server connection was refused for it. `Forwarding` ties these to the steps.
pub record Exchange : Type 0 where
  pub pulled : Pulled
  pub server : Option ℕ
  pub sent_at : ℕ
  pub was_refused : Bool

-- it was sent on the server connection with this number
abbrev pub is_on : ℕ → Exchange → Bool
is_on k x = is_this x.server
  where
    is_this : Option ℕ → Bool
    is_this None = false
    is_this (Some n) = n == k

-- what was sent of it; the date of its head is the moment at which it was
abbrev pub sent_of : Edge → List ProxyStep → Exchange → Sent
sent_of e history x = record {
  edge = e;
  head = x.pulled.head;
  moment = now (first_of x.sent_at history);
  pieces = x.pulled.pieces;
  is_whole = x.pulled.is_ended;
}

-- all requests that were sent on this server connection, the oldest first
abbrev pub sent_on : Edge → List ProxyStep → ℕ → List Exchange → List Sent
sent_on e history k xs = map (sent_of e history) (reverse (filter (is_on k) xs))

-- the steps by which the first of these requests was sent on; so many where there is none
abbrev pub first_sent : ℕ → List Exchange → ℕ
first_sent n [] = n
first_sent n (x ∷ xs) = x.sent_at

-- the steps up to which bytes of this server connection answer a request: those up to where the next one is sent on it, of the later
-- ones, of which the next stands first
abbrev pub until : List ProxyStep → ℕ → List Exchange → ℕ
until history k later = first_sent (length history) (filter (is_on k) later)

-- What came of the server connection behind the first of these steps, up to the other, and whether its input has ended by then. Bytes
-- that came before a request was sent are never its answer.
abbrev pub answer_input : Setting → List ProxyStep → ℕ → ℕ → ℕ → Received
answer_input setting history k from to = record {
  bytes = drop (length (server_at k (first_of from history)).came) (server_at k (first_of to history)).came;
  ended = (server_at k (first_of to history)).ended;
  hold_size = Some setting.hold_size;
}
