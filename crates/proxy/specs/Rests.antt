-- How much is left for a forwarder to do, and when nothing is.
use Rattle.std.specs.Prelude.{◌≡◌, ◌⊎◌, ℕ, ◌+◌, ◌<◌, ◌≤◌, Bool, true, false, not, ◌&&◌, ◌||◌, List, length, nat_lt, if◌then◌else◌, Option, Some, None, is_some, ⊤}
use Rattle.model_h1.specs.Event as on
use Rattle.model_h1.specs.Sums as sums
use Rattle.model_state.specs.Local.{closing_by}
use Rattle.h1_connection.specs.EventMeaning.{setting_of}
use Rattle.h1_connection.specs.State.{State, Stands, IsAllowed}
use Rattle.h1_client.specs.State as servers
use Rattle.model_client.specs.ClientKept.{client_closing}
use Rattle.model_client.specs.ClientTrace.{Happened}
use Rattle.model_proxy.specs.Rests.{MAX_WAITING}
use Rattle.model_proxy.specs.Left.{client_left, server_left}
use Rattle.proxy.specs.Sides.{SendsBody}
use Rattle.proxy.specs.Leaves.{LacksHead, LacksMore, IsAwaited, LacksBytes}
use Rattle.proxy.specs.declared.proxy.Proxy.{Proxy}
use Rattle.proxy.specs.declared.notes.Notes.{Notes}
use Rattle.proxy.specs.declared.proxy.Unsent.{Unsent}
use Rattle.proxy.specs.declared.proxy.SentRequest.{SentRequest}
use Rattle.model_proxy.specs.Past.{ProxyStep}
use Rattle.model_proxy.specs.Happenings.{Happenings}
use Rattle.proxy.specs.Kept.{is_closing, server_text, Forwards}

-- ---- nothing is left

-- where a request is under way its answer may come; else no request is begun while 32768 bytes wait towards the server
abbrev pub may_begin : Option SentRequest → Option servers.State → Bool
may_begin (Some s) server = true
may_begin None server = nat_lt (length (server_text server)) MAX_WAITING

-- there is a server connection that is to end
abbrev pub is_over : Option servers.State → Bool
is_over None = false
is_over (Some s) = is_some (client_closing s.kept)

-- Turns are made: fewer than 32768 bytes wait towards the client, and its connection isn't to end. Whatever waits towards a server connection
-- that is to end, that may be closed.
abbrev pub may_turn : Proxy → Bool
may_turn p = nat_lt (length p.client.kept.buffered) MAX_WAITING && (may_begin p.sent p.server || is_over p.server) && not (is_closing p)

-- The client's side holds turns up, whatever the server's does: 32768 bytes wait for it, or its connection is to end.
abbrev pub holds_up : State → Bool
holds_up client = not (nat_lt (length client.kept.buffered) MAX_WAITING) || is_some (closing_by (setting_of client.settings) client.kept)

-- No turns are made only while bytes wait for somebody to take them: towards the client, or, while no request is sent on there, towards a server
-- connection that isn't to end; or where the client's connection is to end.
abbrev pub IsFull : Option SentRequest → Option servers.State → Type 0
IsFull (Some sent) server = ⊥
IsFull None None = ⊥
IsFull None (Some s) = (MAX_WAITING ≤ length s.kept.buffered) × (client_closing s.kept ≡ None)

abbrev pub IsHeldUp : Proxy → Type 0
IsHeldUp p = (MAX_WAITING ≤ length p.client.kept.buffered) ⊎ (IsFull p.sent p.server ⊎ (is_closing p ≡ true))

-- Of a request that was sent on: no head of its answer is there whole, and the server connection may bring it yet, since it isn't to end and
-- has room for more; once it was passed on, nothing of the answer's body is there, where there is room for a piece: no byte and no end, and
-- the server's input hasn't ended; and nothing of the request's body is, where a piece may be sent and fewer than 32768 bytes wait towards
-- the server.
pub record RestsSent (s : SentRequest) (client : State) (server : servers.State) : Type 0 where
  pub answer : s.is_answered ≡ false → IsAwaited server
  pub piece : s.is_answered ≡ true → ((bytes : List ℕ) → IsAllowed client (on.chunk bytes)) → LacksBytes server
  pub body : s.is_whole ≡ false → s.is_broken ≡ false → length server.kept.buffered < MAX_WAITING → SendsBody server → LacksMore client

abbrev pub RestsOn : SentRequest → State → Option servers.State → Type 0
RestsOn s client None = ⊥
RestsOn s client (Some server) = RestsSent s client server

-- a server connection that is there isn't to end
abbrev pub IsNotToEnd : Option servers.State → Type 0
IsNotToEnd server = (s : servers.State) → server ≡ Some s → client_closing s.kept ≡ None

-- No request is under way: no whole head of one is there, and there is room for more bytes of it; and no server connection is kept that is to
-- end.
pub record RestsIdle (client : State) (server : Option servers.State) : Type 0 where
  pub head : LacksHead client
  pub kept : IsNotToEnd server

-- A request that waits lacks a server connection; where none is under way, none is there to begin.
abbrev pub RestsBy : Option Unsent → Option SentRequest → State → Option servers.State → Type 0
RestsBy (Some u) sent client server = server ≡ None
RestsBy None (Some s) client server = RestsOn s client server
RestsBy None None client server = RestsIdle client server

abbrev pub Rests : Proxy → Type 0
Rests p = RestsBy p.unsent p.sent p.client p.server

abbrev pub RestsWhereItMay : Proxy → Type 0
RestsWhereItMay p = may_turn p ≡ true → Rests p

-- whatever happened before, nothing is left to do after it
abbrev pub Settles : Proxy → Proxy → Type 0
Settles old new = (history : List ProxyStep) (all : Happenings) → Forwards old history all → RestsWhereItMay new

-- ---- how much is left

-- of a request that was sent on: until its end was handed on, or it broke
abbrev pub mark : Bool → ℕ
mark true = 1
mark false = 2

abbrev pub sent_left : SentRequest → ℕ
sent_left s = mark (s.is_whole || s.is_broken)

abbrev pub request_left : Option Unsent → Option SentRequest → ℕ
request_left (Some u) sent = 3
request_left None (Some s) = sent_left s
request_left None None = 0

abbrev pub side_left : Option servers.State → ℕ
side_left None = 0
side_left (Some s) = server_left s.kept + 1

abbrev pub left : Proxy → ℕ
left p = client_left p.client.kept + side_left p.server + request_left p.unsent p.sent

-- and one more while the client's connection goes on
abbrev pub going_on : Bool → ℕ
going_on closes = if closes then 0 else 1

abbrev pub work : Proxy → ℕ
work p = left p + going_on (is_closing p)

-- ---- what a turn does

abbrev pub ServerTold : Option servers.State → Type 0
ServerTold None = ⊤
ServerTold (Some s) = (trace : List Happened) × servers.Stands s trace

-- each connection stands for what happened on it
pub record Told (p : Proxy) : Type 0 where
  pub trace : List sums.Step
  pub stands : Stands p.client trace
  pub server : ServerTold p.server

-- so much less is left
abbrev pub LeavesLess : ℕ → Proxy → Proxy → Type 0
LeavesLess n old new = Told old → Told new × (left new + n ≤ left old)

-- all but what is noted for a log is as it was
abbrev pub IsNoted : Proxy → Proxy → Type 0
IsNoted old new = (n : Notes) × (new ≡ record old { notes = n })

-- at most so much more is left
abbrev pub LeavesMore : ℕ → Proxy → Proxy → Type 0
LeavesMore n old new = Told old → Told new × (left new ≤ left old + n)

-- something was done, so that less is left; or nothing is
abbrev pub Works : Bool → Proxy → Proxy → Type 0
Works true old new = Told old → Told new × (work new ≤ left old)
Works false old new = Told old → Told new × Rests new

-- a turn that does something is made only where turns may be
abbrev pub Turns : Bool → Proxy → Proxy → Type 0
Turns true old new = Told old → Told new × (work new < work old)
Turns false old new = Told old → Told new × RestsWhereItMay new

-- More of the request's body was sent on; or none is there, or may be sent, and all else is as before.
pub record BodyRests (sent : SentRequest) (server : servers.State) (old new : Proxy) : Type 0 where
  pub unsent : new.unsent ≡ None
  pub sent_is : new.sent ≡ Some sent
  pub server_is : new.server ≡ Some server
  pub pieces : (bytes : List ℕ) → IsAllowed new.client (on.chunk bytes) → IsAllowed old.client (on.chunk bytes)
  pub body : sent.is_whole ≡ false → sent.is_broken ≡ false → length server.kept.buffered < MAX_WAITING → SendsBody server
      → LacksMore new.client

abbrev pub WorksBody : SentRequest → servers.State → Bool → Proxy → Proxy → Type 0
WorksBody sent server true old new = Works true (record old { server = Some server }) new
WorksBody sent server false old new = Told (record old { server = Some server }) → Told new × BodyRests sent server old new
