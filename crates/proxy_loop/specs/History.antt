-- A forwarder that has a history.
use Rattle.std.specs.Prelude.{◌≡◌, ℕ, Bool, true, false, List}
use Rattle.model_h1.specs.Event as on
use Rattle.model_client.specs.ClientEvent as asked
use Rattle.model_proxy.specs.Past as told
use Rattle.model_proxy.specs.Past.{ProxyStep, ProxyEvent, ProxyOutcome, done}
use Rattle.model_proxy.specs.Happenings.{Happenings}
use Rattle.proxy.specs.declared.proxy.Proxy.{Proxy}
use Rattle.proxy.specs.Kept.{Forwards, GoesBy, server_of, server_allows, client_takes, wants_server}
use Rattle.proxy.specs.Rests.{RestsWhereItMay}
use Rattle.proxy.specs.Served.{IsServed}
use Rattle.proxy.specs.Runs.{Ran, RepliesBy}

-- It stands for what happened after some events, each with what its call requires and promises; and what its client's connection wants is what
-- the request under way is to get.
pub record HasHistory (p : Proxy) : Type 0 where
  pub history : List ProxyStep
  pub all : Happenings
  pub stands : Forwards p history all
  pub served : IsServed p
  pub ran : Ran history p

-- By this event a forwarder went on: that was added to all that happened before; nothing is left to do where turns may be made; what the client's
-- connection wants is what the request under way is to get; and what was done on each connection, and which parts of a reply were put, has its
-- cause.
pub record ForwarderDoes (event : ProxyEvent) (outcome : ProxyOutcome) (old new : Proxy) : Type 0 where
  pub goes : GoesBy event outcome old new
  pub rests : RestsWhereItMay new
  pub served : IsServed new
  pub replied : RepliesBy event outcome old new

-- it went on by the event where it was told of it, and is else what it was
abbrev pub IfTold : Bool → ProxyEvent → ProxyOutcome → Proxy → Proxy → Type 0
IfTold true event outcome old new = ForwarderDoes event outcome old new
IfTold false event outcome old new = new ≡ old

-- that the server has ended is told exactly where its connection is there and hasn't
abbrev pub EndsServer : Proxy → Proxy → Type 0
EndsServer old new = IfTold (server_allows (server_of old) asked.eof) told.server_eof done old new

-- that a server connection is there, or can't be had, is told exactly where one is wanted
abbrev pub Connects : Proxy → Proxy → Type 0
Connects old new = IfTold (wants_server old) told.connected done old new

abbrev pub Refuses : Proxy → Proxy → Type 0
Refuses old new = IfTold (wants_server old) told.refused done old new

-- a moment is told exactly where it may come
abbrev pub Ticks : ℕ → Proxy → Proxy → Type 0
Ticks moment old new = IfTold (client_takes old (on.tick moment)) (told.tick moment) done old new
