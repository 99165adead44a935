-- How much is left to do with what came from either side of a forwarder: sixteen for each byte, and one where a body hasn't ended.
use Rattle.std.specs.Prelude.{◌≡◌, ℕ, ◌+◌, ◌*◌, ◌<◌, ◌≤◌, false, true, IsTrue, List, [], length, Option, Some, None, is_some, ⊤}
use Rattle.model_h1.specs.Event as on
use Rattle.model_h1.specs.Setting.{Setting}
use Rattle.model_state.specs.Kept.{Rest, no_rest, Exchange, Kept}
use Rattle.model_state.specs.Local.{closing_by, allowed_by}
use Rattle.model_state.specs.Change.{IsStep}
use Rattle.model_client.specs.ClientEvent as asked
use Rattle.model_client.specs.ClientKept.{ReadingBody, ClientKept, client_allows}
use Rattle.model_client.specs.ClientStep.{IsClientStep}

-- something of a body is left
abbrev pub left_of_rest : Rest → ℕ
left_of_rest no_rest = 0
left_of_rest _ = 1

abbrev pub bytes_left : List ℕ → Rest → ℕ
bytes_left bytes rest = 16 * length bytes + left_of_rest rest

-- ---- the client's side

abbrev pub request_left : Option Exchange → ℕ
request_left None = 0
request_left (Some x) = left_of_rest x.rest

abbrev pub client_left : Kept → ℕ
client_left k = 16 * length k.unread + request_left k.exchange

-- What an outcome of `next` leaves: after a head less, by the bytes of the head; after a fault the connection closes; where none is there,
-- there is room for more bytes of it.
abbrev pub LeavesAfterNext : Setting → on.Outcome → Kept → Kept → Type 0
LeavesAfterNext setting (on.head h) old new = client_left new + 15 ≤ client_left old
LeavesAfterNext setting (on.fault f) old new = (is_some (closing_by setting new) ≡ true) × (client_left new ≤ client_left old)
LeavesAfterNext setting (on.closed end) old new = (new.is_over ≡ true) × (client_left new ≤ client_left old)
LeavesAfterNext setting on.pending old new =
    (new.is_coming ≡ false) × (client_left new ≤ client_left old) × (length new.unread < setting.hold_size)
LeavesAfterNext setting o old new = ⊤

-- Nothing of a request's body is there: no byte is, and its input hasn't ended; and whatever a further pull does, it tells that nothing is
-- there yet: no bytes, no trailers, no end and no fault.
pub record LacksBody (setting : Setting) (k : Kept) : Type 0 where
  pub unread : k.unread ≡ []
  pub going : k.has_ended ≡ false
  pub pending : (o : on.Outcome) (next : Kept) → IsStep setting k on.pull o next → o ≡ on.pending

-- a piece of an answer may be handed in only where it might before
abbrev pub TakesNoMorePieces : Setting → Kept → Kept → Type 0
TakesNoMorePieces setting old new = (bytes : List ℕ) → allowed_by setting new (on.chunk bytes) ≡ true → allowed_by setting old (on.chunk bytes) ≡ true

-- What an outcome of `pull` leaves: after bytes less, by the bytes, and after trailers, which end the body; where nothing comes, nothing of
-- the body is there.
abbrev pub LeavesAfterPull : Setting → on.Outcome → Kept → Kept → Type 0
LeavesAfterPull setting (on.bytes bytes) old new = client_left new + 15 ≤ client_left old
LeavesAfterPull setting (on.trailers lines) old new = client_left new < client_left old
LeavesAfterPull setting on.body_ended old new = client_left new ≤ client_left old
LeavesAfterPull setting (on.broken_by fault) old new = client_left new ≤ client_left old
LeavesAfterPull setting on.pending old new = LacksBody setting new × (client_left new ≤ client_left old) × TakesNoMorePieces setting old new
LeavesAfterPull setting o old new = ⊤

-- the event of a call that asks for nothing
abbrev pub AsksNothing : on.Event → Type 0
AsksNothing on.drop_body = ⊤
AsksNothing on.send_continue = ⊤
AsksNothing (on.answer head size) = ⊤
AsksNothing (on.chunk bytes) = ⊤
AsksNothing on.body_end = ⊤
AsksNothing on.body_error = ⊤
AsksNothing event = ⊥

-- ---- a server's side

abbrev pub answer_left : Option ReadingBody → ℕ
answer_left None = 0
answer_left (Some body) = left_of_rest body.rest

abbrev pub server_left : ClientKept → ℕ
server_left k = 16 * length k.unread + answer_left k.reading

abbrev pub LeavesAfterAnswer : asked.ClientOutcome → ClientKept → ClientKept → Type 0
LeavesAfterAnswer (asked.answer a) old new = server_left new + 15 ≤ server_left old
LeavesAfterAnswer asked.pending old new = (new.is_coming ≡ false) × (server_left new ≤ server_left old)
LeavesAfterAnswer (asked.fault f) old new = server_left new ≤ server_left old
LeavesAfterAnswer (asked.closed end) old new = server_left new ≤ server_left old
LeavesAfterAnswer o old new = ⊤

abbrev pub LeavesAfterPiece : asked.ClientOutcome → ClientKept → ClientKept → Type 0
LeavesAfterPiece (asked.bytes bytes) old new = server_left new + 15 ≤ server_left old
LeavesAfterPiece (asked.trailers lines) old new = server_left new < server_left old
LeavesAfterPiece asked.body_ended old new = server_left new ≤ server_left old
LeavesAfterPiece (asked.broken_by fault) old new = server_left new ≤ server_left old
LeavesAfterPiece asked.pending old new = (new.unread ≡ []) × (server_left new ≤ server_left old)
LeavesAfterPiece o old new = ⊤

-- Nothing of an answer's body is there: more of it may be asked for; no byte is there, and the input hasn't ended; and whatever a further
-- pull does, it tells that nothing is there yet: no bytes, no trailers, no end and no fault.
pub record LacksPiece (setting : Setting) (k : ClientKept) : Type 0 where
  pub allowed : IsTrue (client_allows setting k asked.pull)
  pub unread : k.unread ≡ []
  pub going : k.has_ended ≡ false
  pub pending : (o : asked.ClientOutcome) (next : ClientKept) → IsClientStep setting k asked.pull o next → o ≡ asked.pending

-- the event of a call that sends a request, or tells the time
abbrev pub LeavesAll : asked.ClientEvent → Type 0
LeavesAll (asked.ask r size) = ⊤
LeavesAll (asked.chunk bytes) = ⊤
LeavesAll asked.body_end = ⊤
LeavesAll (asked.tick ms) = ⊤
LeavesAll event = ⊥
