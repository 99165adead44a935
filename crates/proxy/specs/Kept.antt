-- A forwarder as its contracts see it, and how it goes on.
use Rattle.std.specs.Prelude.{◌≡◌, ℕ, ◌-◌, ◌<◌, ◌≤◌, Bool, false, not, ◌&&◌, ◌||◌, List, [], ◌∷◌, length, min, nat_le, nat_lt, if◌then◌else◌, Option, Some, None, is_some, is_none, option_map, unwrap_or, ⊤, true}
use Rattle.http_config.specs.Config.{Settings}
use Rattle.model_h1.specs.Limits.{MAX_MOMENT}
use Rattle.model_h1.specs.Request.{Head, has_body}
use Rattle.model_h1.specs.Event as on
use Rattle.model_state.specs.Local.{closing_by, allowed_by}
use Rattle.h1_encoder.specs.Meaning.{size_of}
use Rattle.h1_decoder.specs.HeadItem.{SaysHead}
use Rattle.h1_decoder.specs.declared.decoder.HeadItem.{HeadItem}
use Rattle.model_client.specs.RequestText.{request_text, asked_shape, given_request_text}
use Rattle.model_client.specs.ClientEvent as asked
use Rattle.model_client.specs.ClientKept.{client_allows, is_reusable as takes_another}
use Rattle.h1_client.specs.ClientMeaning as asking
use Rattle.h1_client.specs.ClientMeaning.{request_of}
use Rattle.h1_client.specs.State as servers
use Rattle.h1_connection.specs.EventMeaning.{setting_of}
use Rattle.h1_connection.specs.State.{State}
use Rattle.model_proxy.specs.Edge.{Edge}
use Rattle.model_proxy.specs.Forward.{forwarded, forwarded_size}
use Rattle.model_proxy.specs.Past.{ProxyStep, ProxyEvent, client_eof, ProxyOutcome, last_tick}
use Rattle.model_proxy.specs.Exchange.{unpulled}
use Rattle.model_proxy.specs.Rests.{MAX_WAITING}
use Rattle.model_proxy.specs.Happenings.{Happenings, sent_of}
use Rattle.model_proxy.specs.Carried.{UnderWay, nothing, waits, is_sent, ForwarderKept, Carries, IsNewest}
use Rattle.proxy_heads.specs.Edges.{edge_of}
use Rattle.proxy.specs.declared.proxy.Proxy.{Proxy}
use Rattle.proxy.specs.declared.proxy.Unsent.{Unsent}
use Rattle.proxy.specs.declared.proxy.SentRequest.{SentRequest}

-- ---- what it keeps

-- the client's connection, and the connection to a server, if there is one
abbrev pub client_of : Proxy → State
client_of proxy = proxy.client

abbrev pub server_of : Proxy → Option servers.State
server_of proxy = proxy.server

abbrev pub under_way_of : Option Unsent → Option SentRequest → UnderWay
under_way_of (Some u) sent = waits (request_of u.head) (size_of u.size) u.sent.is_whole u.sent.is_broken
under_way_of None (Some s) = is_sent s.is_whole s.is_broken
under_way_of None None = nothing

abbrev pub kept_of : Proxy → ForwarderKept
kept_of p = record {
  client = p.client.kept;
  server = option_map (λ s. s.kept) p.server;
  under_way = under_way_of p.unsent p.sent;
}

abbrev pub HasSettings : Settings → Option servers.State → Type 0
HasSettings settings None = ⊤
HasSettings settings (Some s) = s.settings ≡ settings

-- the moment that a server connection was told last, 0 before the first
abbrev pub time_of : Option servers.State → ℕ
time_of None = 0
time_of (Some s) = s.kept.now

-- The moment is that of the last tick, and the server connection was told no later one.
pub record IsTimed (moment : Option ℕ) (server : Option servers.State) (history : List ProxyStep) : Type 0 where
  pub last : moment ≡ last_tick history
  pub below : unwrap_or moment 0 < MAX_MOMENT
  pub told : time_of server ≤ unwrap_or moment 0

-- What a forwarder keeps is what is left of all that happened after these events.
pub record Forwards (p : Proxy) (history : List ProxyStep) (all : Happenings) : Type 0 where
  pub client : p.client.settings ≡ p.config.connections
  pub server : HasSettings p.config.connections p.server
  pub carries : Carries (edge_of p.config.edge) (setting_of p.config.connections) (asking.setting_of p.config.connections) (kept_of p) history all
  pub time : IsTimed p.moment p.server history

-- ---- how it goes on

-- the event is allowed on the client's connection
abbrev pub client_takes : Proxy → on.Event → Bool
client_takes proxy event = allowed_by (setting_of (client_of proxy).settings) (client_of proxy).kept event

-- What comes to the history by an event: its step. The end of a client is one only where the client's connection takes it.
abbrev pub history_by : ProxyEvent → ProxyOutcome → Proxy → List ProxyStep → List ProxyStep
history_by client_eof outcome old history =
    if client_takes old on.eof then record { event = client_eof; outcome = outcome } ∷ history else history
history_by event outcome old history = record { event = event; outcome = outcome } ∷ history

-- without an event of its own; its settings stay
abbrev pub Goes : Proxy → Proxy → Type 0
Goes old new =
    (new.config ≡ old.config)
    × ((history : List ProxyStep) (all : Happenings) → Forwards old history all → (after : Happenings) × Forwards new history after)

-- by this event, with this outcome; its settings stay
abbrev pub GoesBy : ProxyEvent → ProxyOutcome → Proxy → Proxy → Type 0
GoesBy event outcome old new =
    (new.config ≡ old.config)
    × ((history : List ProxyStep) (all : Happenings) → Forwards old history all
    → (after : Happenings) × Forwards new (history_by event outcome old history) after)

-- where it is a step of the history
abbrev pub StepsBy : ProxyEvent → ProxyOutcome → Proxy → Proxy → Type 0
StepsBy event outcome old new =
    (new.config ≡ old.config)
    × ((history : List ProxyStep) (all : Happenings) → Forwards old history all
    → (after : Happenings) × Forwards new (record { event = event; outcome = outcome } ∷ history) after)

-- where this is the connection to a server
abbrev pub GoesWith : servers.State → Proxy → Proxy → Type 0
GoesWith server old new = Goes (record old { server = Some server }) new

-- where this request waits
abbrev pub GoesUnsent : Unsent → Proxy → Proxy → Type 0
GoesUnsent unsent old new = Goes (record old { unsent = Some unsent }) new

-- where this one was sent on, on this connection, and its body is broken
abbrev pub GoesBroken : SentRequest → servers.State → Proxy → Proxy → Type 0
GoesBroken sent server old new = Goes (record old { server = Some server; sent = Some (record sent { is_broken = true }) }) new

-- by the newest request, which this item says
abbrev pub GoesFrom : HeadItem → Proxy → Proxy → Type 0
GoesFrom item old new =
    (new.config ≡ old.config)
    × ((history : List ProxyStep) (all : Happenings) (h : Head) → SaysHead item h → Forwards old history all
    → IsNewest h all → (after : Happenings) × Forwards new history after)

-- no request is under way
pub record HoldsNoRequest (p : Proxy) : Type 0 where
  pub unsent : p.unsent ≡ None
  pub sent : p.sent ≡ None

-- this one is
pub record Runs (this : SentRequest) (p : Proxy) : Type 0 where
  pub unsent : p.unsent ≡ None
  pub sent : p.sent ≡ Some this

-- a request that waits is what is to be sent on for this head, at this edge
pub record IsUnsent (e : Edge) (u : Unsent) (h : Head) : Type 0 where
  pub method : (request_of u.head).head.method ≡ h.method
  pub minor : (request_of u.head).head.minor ≡ 1
  pub whole : u.sent.is_whole ≡ not (has_body h.body)
  pub unbroken : u.sent.is_broken ≡ false
  pub sized : size_of u.size ≡ forwarded_size h
  pub text : (moment : ℕ) → request_text (request_of u.head).head (asked_shape (size_of u.size)) (size_of u.size) (request_of u.head).connection moment
      ≡ given_request_text (forwarded (sent_of e (unpulled h) moment))

-- ---- questions

-- the client's connection is to end
abbrev pub is_closing : Proxy → Bool
is_closing proxy = is_some (closing_by (setting_of (client_of proxy).settings) (client_of proxy).kept)

-- a server connection is wanted: a request waits for one, there is none, and the client's connection isn't to end
abbrev pub wants_server : Proxy → Bool
wants_server proxy = is_some proxy.unsent && is_none (server_of proxy) && not (is_closing proxy)

-- what waits to be written towards a server
abbrev pub server_text : Option servers.State → List ℕ
server_text None = []
server_text (Some server) = server.kept.buffered

-- the event is allowed on the connection to a server
abbrev pub server_allows : Option servers.State → asked.ClientEvent → Bool
server_allows None event = false
server_allows (Some s) event = client_allows (asking.setting_of s.settings) s.kept event

-- how many bytes may be taken from the client now: none while its connection is to end or its input has ended, or 32768 wait towards the
-- server
abbrev pub client_room : Proxy → ℕ
client_room p =
    if is_closing p || not (client_takes p on.eof) || nat_le MAX_WAITING (length (server_text (server_of p))) then 0
    else p.client.settings.h1_hold_size - length p.client.kept.unread

-- and from the server: none without a connection, or once its input has ended, or while 32768 wait towards the client
abbrev pub room_of : Option servers.State → ℕ
room_of None = 0
room_of (Some s) = if client_allows (asking.setting_of s.settings) s.kept asked.eof then s.settings.h1_hold_size - length s.kept.unread else 0

abbrev pub server_room : Proxy → ℕ
server_room p = if nat_le MAX_WAITING (length p.client.kept.buffered) then 0 else room_of p.server

-- no request is under way
abbrev pub is_idle : Proxy → Bool
is_idle p = is_none p.unsent && is_none p.sent

-- bytes of the client are held that weren't passed on
abbrev pub has_unread : Proxy → Bool
has_unread p = nat_lt 0 (length p.client.kept.unread)

-- The client is to send more: there is room for it, and nothing waits for it to take. Of a body that is read, and so may be dropped, all that
-- came was passed on; or no request is under way, and a head is begun, or the rest of a body is dropped.
abbrev pub is_to_send : Proxy → Bool
is_to_send p =
    nat_lt 0 (client_room p) && (not (nat_lt 0 (length p.client.kept.buffered))
    && (if client_takes p on.drop_body then not (has_unread p) else (is_idle p && (not (client_takes p on.next) || has_unread p))))

-- the reply is whole and was taken, and the rest of its request's body is dropped
abbrev pub is_draining : Proxy → Bool
is_draining p = not (is_closing p) && (not (nat_lt 0 (length p.client.kept.buffered)) && (is_idle p && not (client_takes p on.next)))

-- so many of the bytes were taken as there was room for, whatever happened before
abbrev pub TakesAll : ℕ → List ℕ → ℕ → Proxy → Type 0
TakesAll count bytes room old = (history : List ProxyStep) (all : Happenings) → Forwards old history all → count ≡ min (length bytes) room

-- the connection to a server may serve a further request, of another client too: none is under way
abbrev pub may_serve : Option SentRequest → Option servers.State → Bool
may_serve sent None = false
may_serve sent (Some s) = is_none sent && takes_another s.kept

abbrev pub is_reusable : Proxy → Bool
is_reusable p = may_serve p.sent p.server

-- the head of an answer was passed on, and its reply isn't complete
abbrev pub was_answered : Option SentRequest → Bool
was_answered None = false
was_answered (Some s) = s.is_answered

abbrev pub is_answering : Proxy → Bool
is_answering p = was_answered p.sent

-- The client's input has ended while no answer to its request has begun: nothing tells such a client from one that has gone.
abbrev pub may_be_gone : Proxy → Bool
may_be_gone p = not (client_takes p on.eof) && (not (is_closing p) && (not (is_idle p) && not (is_answering p)))
