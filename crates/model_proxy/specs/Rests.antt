-- Which events a forwarder takes, and when nothing is left for it to do.
use Rattle.std.specs.Prelude.{◌≡◌, ◌⊎◌, ℕ, ◌+◌, ◌<◌, Bool, true, false, not, ◌&&◌, ◌||◌, List, [], ◌∷◌, length, filter, Option, Some, None, is_some, is_none, unwrap_or, ⊤}
use Rattle.model_h1.specs.Setting.{Setting}
use Rattle.model_h1.specs.Event as on
use Rattle.model_h1.specs.Sums.{Step, has_ended, is_answering, was_dropped}
use Rattle.model_h1.specs.Past.{ParsedStep, steps}
use Rattle.model_h1.specs.Text.{buffered}
use Rattle.model_h1.specs.Closing.{closing}
use Rattle.model_h1.specs.Allowed.{is_over, is_allowed, waits_for_answer, is_moment}
use Rattle.model_h1.specs.OutcomeTable.{outcome_of}
use Rattle.model_h1.specs.Laws.Exchanges.{Reply, answer_given, exchanges}
use Rattle.model_h1.specs.Laws.Exchanges as replies
use Rattle.model_client.specs.RequestText.{joined}
use Rattle.model_proxy.specs.Edge.{Edge}
use Rattle.model_proxy.specs.Forward.{is_forwardable}
use Rattle.model_proxy.specs.Answers.{unfinished, Found, IsAnswer}
use Rattle.model_proxy.specs.Past.{ProxyEvent, client, server, client_eof, server_eof, connected, refused, to_client, to_server, tick, ProxyStep, Server, servers, server_at}
use Rattle.model_proxy.specs.Exchange.{Exchange, is_on, answer_input}
use Rattle.model_proxy.specs.Forwarding.{IsAlone}

-- turns stop where so many bytes wait towards either side
abbrev pub MAX_WAITING : ℕ
MAX_WAITING = 32768

-- ---- which events are allowed

-- the client's connection is neither over nor about to close
abbrev pub is_running : Setting → List ParsedStep → Bool
is_running setting past = not (is_over (steps past)) && is_none (closing setting past)

-- the newest request can be sent on, and wasn't
abbrev pub is_unsent : Edge → List Exchange → Bool
is_unsent e [] = false
is_unsent e (x ∷ xs) = is_forwardable e x.pulled.head && is_none x.server

-- a server connection is wanted: for a request that is open, while there is none
abbrev pub wants_server : Edge → Setting → List ParsedStep → Option (List ℕ) → List Exchange → Bool
wants_server e setting past waiting xs =
    is_running setting past && waits_for_answer (steps past) && is_unsent e xs && is_none waiting

-- a server connection is open, and its input hasn't ended
abbrev pub is_read : List Server → Option (List ℕ) → Bool
is_read [] waiting = false
is_read (s ∷ older) waiting = is_some waiting && not s.ended

-- while the client's connection isn't given up
abbrev pub is_taken : Edge → Setting → List ParsedStep → List ProxyStep → Option (List ℕ) → List Exchange → ProxyEvent → Bool
is_taken e setting past history waiting xs (client bytes) = is_running setting past && not (has_ended (steps past))
is_taken e setting past history waiting xs client_eof = is_running setting past && not (has_ended (steps past))
is_taken e setting past history waiting xs connected = wants_server e setting past waiting xs
is_taken e setting past history waiting xs refused = wants_server e setting past waiting xs
is_taken e setting past history waiting xs (server bytes) = is_read (servers history) waiting
is_taken e setting past history waiting xs server_eof = is_running setting past && is_read (servers history) waiting
is_taken e setting past history waiting xs (to_server n) = is_some waiting
is_taken e setting past history waiting xs (to_client n) = true
is_taken e setting past history waiting xs (tick ms) = is_moment (steps past) ms

-- the event is allowed; nothing is once the client's connection is over
abbrev pub is_event_allowed : Edge → Setting → List ParsedStep → List ProxyStep → Option (List ℕ) → List Exchange → ProxyEvent → Bool
is_event_allowed e setting past history waiting xs event =
    not (is_over (steps past)) && is_taken e setting past history waiting xs event

-- ---- what rests

-- the newest request was sent on, and its reply isn't complete
abbrev pub is_under_way : List Step → List Exchange → Bool
is_under_way trace [] = false
is_under_way trace (x ∷ xs) = is_some x.server && (waits_for_answer trace || is_answering trace)

-- The newest server connection can serve no further request: its input has ended, or is to; or bytes came behind the last answer, or
-- before any request.
abbrev pub IsSpent : Setting → List ProxyStep → List Exchange → Type 0
IsSpent setting history xs = (k : ℕ) → k + 1 ≡ length (servers history) → IsUnfit (filter (is_on k) xs) (server_at k history) k
  where
    IsUnfit : List Exchange → Server → ℕ → Type 0
    IsUnfit [] s k = (s.ended ≡ true) ⊎ (s.came ≡ [] → ⊥)
    IsUnfit (x ∷ xs) s k = IsAlone setting history x k (length history) → ⊥

-- Turns are taken: the client's connection goes on, and little waits towards the client. While a request is under way it goes on whatever
-- waits towards its server; none is begun while much waits towards the one before, unless that server connection is to be closed.
pub record MayTurn (setting : Setting) (past : List ParsedStep) (history : List ProxyStep) (waiting : Option (List ℕ)) (xs : List Exchange) : Type 0 where
  pub running : is_running setting past ≡ true
  pub client : length (buffered setting (steps past)) < MAX_WAITING
  pub server : (is_under_way (steps past) xs ≡ true) ⊎ ((length (unwrap_or waiting []) < MAX_WAITING) ⊎ IsSpent setting history xs)

-- this is the server connection that is open
abbrev pub IsOpen : List ProxyStep → Option (List ℕ) → ℕ → Type 0
IsOpen history waiting k = (is_some waiting ≡ true) × (k + 1 ≡ length (servers history))

-- A request without an answer can be sent on, and no server connection was refused for it. It waits for one; or it was sent on one
-- that is open, its answer has no head yet and isn't bad, and its own body isn't broken.
pub record Waits (e : Edge) (setting : Setting) (history : List ProxyStep) (waiting : Option (List ℕ)) (x : Exchange) : Type 0 where
  pub forwardable : is_forwardable e x.pulled.head ≡ true
  pub unrefused : x.was_refused ≡ false
  pub unconnected : x.server ≡ None → waiting ≡ None
  pub unanswered : (k : ℕ) → x.server ≡ Some k → IsOpen history waiting k × (x.pulled.is_broken ≡ false)
      × (found : Found) × IsAnswer (answer_input setting history k x.sent_at (length history)) x.pulled.head.method found
      × (found.response ≡ None) × (found.fate ≡ unfinished)

-- the pieces of a reply's body
abbrev pub pieces_of : List replies.Exchange → List (List ℕ)
pieces_of [] = []
pieces_of (e ∷ es) = given_pieces e.reply
  where
    given_pieces : Reply → List (List ℕ)
    given_pieces (answer_given a) = a.pieces
    given_pieces _ = []

-- a reply that is under way has all bytes of its answer that came, and the answer isn't whole; its server connection is open
abbrev pub IsPassing : Setting → List ProxyStep → Option (List ℕ) → List Step → Exchange → Type 0
IsPassing setting history waiting trace x =
    (k : ℕ) → x.server ≡ Some k → IsOpen history waiting k × (found : Found) × IsAnswer (answer_input setting history k x.sent_at (length history)) x.pulled.head.method found
    × (found.fate ≡ unfinished) × (joined (pieces_of (exchanges trace)) ≡ found.bytes)

-- of the newest request, if there is one
abbrev pub OfNewest : (Exchange → Type 0) → List Exchange → Type 0
OfNewest P [] = ⊤
OfNewest P (x ∷ xs) = P x

-- Nothing is left to do: no further request can be had, and no client of HTTP/1.1 that waits wants to go on; an open request waits; all of its body
-- that came was taken, once it was sent on, where little waits before it, and none of it was left; all of its answer that came was passed on;
-- and between two requests no server connection is kept that can serve no further one.
pub record Rests (e : Edge) (setting : Setting) (past : List ParsedStep) (history : List ProxyStep) (waiting : Option (List ℕ)) (xs : List Exchange) : Type 0 where
  pub next : is_allowed setting past on.next ≡ true → outcome_of setting past on.next ≡ on.pending
  pub told : is_allowed setting past on.send_continue ≡ true → OfNewest (λ x. x.pulled.head.minor ≡ 0) xs
  pub waits : waits_for_answer (steps past) ≡ true → OfNewest (Waits e setting history waiting) xs
  pub body : is_some waiting ≡ true → length (unwrap_or waiting []) < MAX_WAITING → length (unwrap_or waiting []) < setting.write_buffer
      → OfNewest (λ x. is_some x.server ≡ true) xs → is_allowed setting past on.pull ≡ true → outcome_of setting past on.pull ≡ on.pending
  pub spent : is_under_way (steps past) xs ≡ false → IsSpent setting history xs → waiting ≡ None
  pub kept : is_under_way (steps past) xs ≡ true → was_dropped (steps past) ≡ false
  pub passing : is_answering (steps past) ≡ true → length (buffered setting (steps past)) < setting.write_buffer
      → OfNewest (IsPassing setting history waiting (steps past)) xs

-- what holds after each step
abbrev pub RestsWhereItMay : Edge → Setting → List ParsedStep → List ProxyStep → Option (List ℕ) → List Exchange → Type 0
RestsWhereItMay e setting past history waiting xs = MayTurn setting past history waiting xs → Rests e setting past history waiting xs
