-- When a turn may begin, and what it does with a request that waits: it sends that on where it can, and only after all earlier bytes of its
-- server were read.
use Rattle.std.specs.Prelude.{◌≡◌, ◌⊎◌, ℕ, ◌≤◌, Bool, true, false, not, ◌||◌, List, [], ◌++◌, length, slice_range, Option, Some, None, is_some, ⊤}
use Rattle.model_h1.specs.HeadPiece.{IsHeadPiece}
use Rattle.model_h1.specs.Setting.{Setting}
use Rattle.model_client.specs.AnswerReading.{Answer, answer_is, IsAnswerReadingWithin}
use Rattle.model_client.specs.ClientEvent as asked
use Rattle.model_client.specs.ClientKept.{is_free, is_waited_for, client_closing, client_allows}
use Rattle.h1_client.specs.ClientMeaning as asking
use Rattle.h1_client.specs.ClientMeaning.{request_of}
use Rattle.h1_client.specs.State as servers
use Rattle.h1_encoder.specs.Meaning.{size_of}
use Rattle.proxy.specs.Sides.{ServerDid, IsToldMoment}
use Rattle.proxy.specs.declared.proxy.Proxy.{Proxy}
use Rattle.proxy.specs.declared.proxy.Unsent.{Unsent}
use Rattle.model_proxy.specs.Past.{ProxyStep, now}
use Rattle.model_proxy.specs.Rests.{MAX_WAITING}
use Rattle.model_proxy.specs.Happenings.{Happenings}
use Rattle.proxy.specs.Kept.{Forwards}
use Rattle.proxy.specs.Rests.{is_over, may_turn, IsNoted}

-- Nothing of an earlier answer is to come: no request waits for its answer, the last answer was read to its end, and no byte is left.
pub record HasReadAll (s : servers.State) : Type 0 where
  pub waiting : s.kept.waiting ≡ []
  pub free : is_free s.kept ≡ true
  pub unread : s.kept.unread ≡ []

-- No request may be sent on it: it is to end, a request waits there for its answer, or the last answer wasn't read to its end.
abbrev pub is_used : servers.State → Bool
is_used s =
    is_some (client_closing s.kept) || is_waited_for s.kept.waiting || not (client_allows (asking.setting_of s.settings) s.kept asked.next)

abbrev pub is_server_used : Option servers.State → Bool
is_server_used None = false
is_server_used (Some s) = is_used s

-- it was told the last moment, if there is one
abbrev pub IsToldTime : Option ℕ → servers.State → servers.State → Type 0
IsToldTime None old new = new ≡ old
IsToldTime (Some moment) old new = IsToldMoment moment old new

-- the event that sends this request
abbrev pub asking_of : Unsent → asked.ClientEvent
asking_of u = asked.ask (request_of u.head) (size_of u.size)

-- A request is sent on by the server connection that is there, once that is told the time: it is dated by the last tick of the forwarder's
-- history, 0 before the first. All that came before on that connection was read.
pub record IsSentUpstream (u : Unsent) (old new : Proxy) : Type 0 where
  pub server : servers.State
  pub is_there : old.server ≡ Some server
  pub read : HasReadAll server
  pub told : servers.State
  pub tells : IsToldTime old.moment server told
  pub dated : (history : List ProxyStep) (all : Happenings) → Forwards old history all → told.kept.now ≡ now history
  pub after : servers.State
  pub asks : ServerDid (asking_of u) told after
  pub noted : IsNoted (record old { unsent = None; sent = Some u.sent; server = Some after }) new

-- it can't be: there is no server connection, or one on which none may be sent, or that doesn't allow this one
abbrev pub CannotSend : Unsent → Option ℕ → Option servers.State → Type 0
CannotSend u moment None = ⊤
CannotSend u moment (Some s) =
    (is_used s ≡ true) ⊎ ((told : servers.State) × IsToldTime moment s told × (client_allows (asking.setting_of told.settings) told.kept (asking_of u) ≡ false))

-- then it waits for another server connection
pub record WaitsOn (u : Unsent) (old new : Proxy) : Type 0 where
  pub cannot : CannotSend u old.moment old.server
  pub waits : new ≡ record old { server = None }

abbrev pub SendsOrWaits : Unsent → Proxy → Proxy → Type 0
SendsOrWaits u old new = IsSentUpstream u old new ⊎ WaitsOn u old new

-- All that a turn does with a request that waits: it is sent on where it can be, and else waits on without a server connection; and where no
-- turn may be made, nothing is done.
abbrev pub SendsWhereItCan : Proxy → Proxy → Type 0
SendsWhereItCan old new = (u : Unsent) → old.unsent ≡ Some u → ((may_turn old ≡ false) × (new ≡ old)) ⊎ SendsOrWaits u old new

-- Where no request was sent on, a server connection that is to end is closed, and nothing else is done.
abbrev pub ClosesOver : Proxy → Proxy → Type 0
ClosesOver old new = is_over old.server ≡ true → old.sent ≡ None → new ≡ record old { server = None }

-- Where turns aren't made, nothing is done; and while no request was sent on, a server connection that is to end is closed before all else.
abbrev pub BeginsWhereItMay : Proxy → Proxy → Type 0
BeginsWhereItMay old new = (new ≡ old) ⊎ ((may_turn old ≡ true) × ClosesOver old new)

-- Where 32768 bytes wait towards a server none come behind them: they wait on, or its connection is closed.
abbrev pub AddsBelow : Option servers.State → Option servers.State → Type 0
AddsBelow None new = ⊤
AddsBelow (Some s) None = ⊤
AddsBelow (Some s) (Some t) = MAX_WAITING ≤ length s.kept.buffered → t.kept.buffered ≡ s.kept.buffered

-- one request at most is under way: where one waits, none was sent
abbrev pub WaitsAlone : Proxy → Type 0
WaitsAlone p = is_some p.unsent ≡ true → p.sent ≡ None

-- So what waits towards either side stays below its bound and what one turn adds: where 32768 bytes wait towards the client no turn is made, and
-- where as many wait towards the server a turn adds none.
pub record SendsBelow (old new : Proxy) : Type 0 where
  pub client : MAX_WAITING ≤ length old.client.kept.buffered → new ≡ old
  pub server : WaitsAlone old → AddsBelow old.server new.server

-- the answer's head is read from a piece of these bytes
pub record IsReadFrom (setting : Setting) (bytes : List ℕ) (a : Answer) : Type 0 where
  pub passed : List ℕ
  pub unread : List ℕ
  pub are : bytes ≡ passed ++ unread
  pub start : ℕ
  pub end : ℕ
  pub piece : IsHeadPiece unread start end
  pub reading : IsAnswerReadingWithin (Some setting.hold_size) (slice_range unread start end) (answer_is a)
