-- What a forwarder may have gone through: events, one after another, each with what its call requires and promises; and that it forwarded then.
use Rattle.std.specs.Prelude.{◌≡◌, ℕ, ◌≤◌, true, List, [], length, Option, None, option_map, ⊤}
use Rattle.http_config.specs.Config.{AreUsable}
use Rattle.model_h1.specs.Event as on
use Rattle.model_h1.specs.Sums.{Step}
use Rattle.model_client.specs.ClientEvent as asked
use Rattle.h1_connection.specs.EventMeaning.{setting_of}
use Rattle.h1_connection.specs.State.{fresh_state, Stands}
use Rattle.h1_client.specs.State as servers
use Rattle.model_proxy.specs.Past.{ProxyStep, ProxyEvent, ProxyOutcome}
use Rattle.model_proxy.specs.Past as event
use Rattle.model_proxy.specs.Exchange.{Exchange}
use Rattle.model_proxy.specs.Forwarding.{IsForwarding}
use Rattle.model_proxy.specs.Happenings.{nothing_happened}
use Rattle.proxy_heads.specs.Edges.{edge_of}
use Rattle.proxy.specs.declared.proxy.Proxy.{Proxy}
use Rattle.proxy.specs.Kept.{client_of, server_of, Forwards, history_by, client_takes, server_allows, server_text, wants_server}
use Rattle.proxy.specs.Rests.{IsNoted}
use Rattle.proxy.specs.Served.{IsServed}
use Rattle.proxy.specs.Replies.{Replies, RepliesRefused}

-- ---- one event

-- the call of the event may be made
abbrev pub MayCome : ProxyEvent → Proxy → Type 0
MayCome event.connected p = wants_server p ≡ true
MayCome event.refused p = wants_server p ≡ true
MayCome event.server_eof p = server_allows (server_of p) asked.eof ≡ true
MayCome (event.to_client count) p = (client_takes p (on.write count) ≡ true) × (count ≤ length (client_of p).kept.buffered)
MayCome (event.to_server count) p = (server_allows (server_of p) (asked.write count) ≡ true) × (count ≤ length (server_text (server_of p)))
MayCome (event.tick moment) p = client_takes p (on.tick moment) ≡ true
MayCome by p = ⊤

-- what it does, and the turns that follow it (clause `replies` of each)
abbrev pub RepliesBy : ProxyEvent → ProxyOutcome → Proxy → Proxy → Type 0
RepliesBy event.refused event.done old new = RepliesRefused old new
RepliesBy by outcome old new = Replies by outcome old new

-- ---- all events

-- A forwarder is new, or went on from one that these events were told, the newest first, by a further one. The end of a client that takes
-- none is no step. In between what is noted for a log may change, and nothing else.
pub data Ran : List ProxyStep → Proxy → Type 0 where
  at_first : (p : Proxy) → client_of p ≡ fresh_state p.config.connections → server_of p ≡ None → Forwards p [] nothing_happened → IsServed p → Ran [] p
  behind : (history : List ProxyStep) (old new : Proxy) (by : ProxyEvent) (outcome : ProxyOutcome) → Ran history old → MayCome by old
      → RepliesBy by outcome old new → Ran (history_by by outcome old history) new
  noted : (history : List ProxyStep) (old new : Proxy) → Ran history old → IsNoted old new → Ran history new

-- ---- the theorem

-- its settings are such as their builder makes: a piece of a request finds room
abbrev pub IsUsable : Proxy → Type 0
IsUsable p = AreUsable p.config.connections

-- the bytes that wait to be given to the server, where a connection is open
abbrev pub waiting_of : Option servers.State → Option (List ℕ)
waiting_of server = option_map (λ s. s.kept.buffered) server

-- What these events made of a forwarder is what one does: its client's connection did this trace, of these requests.
pub record IsAForwarder (history : List ProxyStep) (p : Proxy) : Type 0 where
  pub trace : List Step
  pub requests : List Exchange
  pub stands : Stands (client_of p) trace
  pub forwards : IsForwarding (edge_of p.config.edge) (setting_of p.config.connections) history (waiting_of (server_of p)) trace requests
