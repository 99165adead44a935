-- What moves between a client, the server and the forwarder between them.
use Rattle.std.specs.Prelude.{◌≡◌, ◌⊎◌, ℕ, Bool, true, false, List, Option, Some, None}
use Rattle.model_proxy.specs.Past as event
use Rattle.model_proxy.specs.Past.{ProxyEvent, done}
use Rattle.proxy.specs.declared.proxy.Proxy.{Proxy}
use Rattle.proxy.specs.Kept.{is_answering}
use Rattle.proxy_loop.specs.Flow.{TakesIn, Writes, HasReadCause, HasWriteCause}
use Rattle.proxy_loop.specs.History.{ForwarderDoes, EndsServer}
use Rattle.proxy_loop.specs.declared.flow.TakenIn.{TakenIn}
use Rattle.proxy_loop.specs.declared.flow.TakenIn.TheVariants as came
use Rattle.app_proxy.specs.declared.standing.Stage.{Stage}
use Rattle.app_proxy.specs.declared.standing.Stage.TheVariants as stage

-- ---- reads

-- What is made of what a read of the client brought: its end is told, and nothing else. It is let go at most where the read failed.
abbrev pub FollowsClient : TakenIn → Proxy → Stage → Stage → Proxy → Type 0
FollowsClient (came.Bytes n) old before now new = (new ≡ old) × (now ≡ before)
FollowsClient came.End old before now new = ForwarderDoes event.client_eof done old new × (now ≡ before)
FollowsClient came.Failed old before now new = (new ≡ old) × ((now ≡ before) ⊎ (now ≡ stage.Lost))
FollowsClient came.Full old before now new = (new ≡ old) × (now ≡ before)

-- The connection to the server broke, or it is given up: where an answer is under way its client is let go, and else it is told that the server
-- has ended, and the client stays.
abbrev pub BreaksOff : Proxy → Stage → Stage → Proxy → Type 0
BreaksOff old before now new =
    ((is_answering old ≡ true) × (new ≡ old) × (now ≡ stage.Lost)) ⊎ ((is_answering old ≡ false) × (now ≡ before) × EndsServer old new)

-- The same of the server, whose connection may have broken, or has nothing to give now.
abbrev pub FollowsServer : TakenIn → Proxy → Stage → Stage → Proxy → Type 0
FollowsServer (came.Bytes n) old before now new = (new ≡ old) × (now ≡ before)
FollowsServer came.End old before now new = EndsServer old new × (now ≡ before)
FollowsServer came.Failed old before now new = ((new ≡ old) × (now ≡ before)) ⊎ BreaksOff old before now new
FollowsServer came.Full old before now new = (new ≡ old) × (now ≡ before)

-- The bytes that left the client's source were told to the forwarder, all in one event and in order. Its end was told exactly
-- where the source showed it. The source was asked unless there was room for nothing. The client stays, unless the read failed.
pub record HearsClient (limit before after : ℕ) (left rest : Option (List ℕ)) (old : Proxy) (earlier now : Stage) (new : Proxy) : Type 0 where
  pub came : TakenIn
  pub between : Proxy
  pub takes : TakesIn event.client old left rest came between
  pub cause : HasReadCause limit before after came
  pub follows : FollowsClient came between earlier now new

-- the same of the server; the client is let go only where the read failed while an answer was under way
pub record HearsServer (limit before after : ℕ) (left rest : Option (List ℕ)) (old : Proxy) (earlier now : Stage) (new : Proxy) : Type 0 where
  pub came : TakenIn
  pub between : Proxy
  pub takes : TakesIn event.server old left rest came between
  pub cause : HasReadCause limit before after came
  pub follows : FollowsServer came between earlier now new

-- ---- writes

-- The client stays where something was written, and is let go at most where nothing was.
abbrev pub MayLetGo : Option ℕ → Stage → Stage → Type 0
MayLetGo (Some n) before now = now ≡ before
MayLetGo None before now = (now ≡ before) ⊎ (now ≡ stage.Lost)

-- Of the bytes that waited the first ones were written, no others, and the forwarder gave those. Where bytes might be written, none were
-- only where the sink failed.
pub record Tells (by : ℕ → ProxyEvent) (waited : List ℕ) (allowed : Bool) (before now : ℕ) (given after : Option (List ℕ)) (old : Proxy) (earlier later : Stage) (new : Proxy) : Type 0 where
  pub count : Option ℕ
  pub writes : Writes by waited old given after count new
  pub cause : HasWriteCause allowed before now count
  pub stage : MayLetGo count earlier later
