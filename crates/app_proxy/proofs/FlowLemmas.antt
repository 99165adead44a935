-- Reads and writes, put together of their parts.
use Rattle.std.proofs.Common.{ℕ, Bool, List, Option}
use Rattle.model_proxy.specs.Past as event
use Rattle.model_proxy.specs.Past.{ProxyEvent}
use Rattle.proxy.specs.declared.proxy.Proxy.{Proxy}
use Rattle.proxy_loop.specs.Flow.{TakesIn, Writes, HasReadCause, HasWriteCause}
use Rattle.proxy_loop.specs.declared.flow.TakenIn.{TakenIn}
use Rattle.app_proxy.specs.declared.standing.Stage.{Stage}
use Rattle.app_proxy.specs.Flow.{FollowsClient, FollowsServer, HearsClient, HearsServer, MayLetGo, Tells}

pub hears_client : (limit before after : ℕ) (left rest : Option (List ℕ)) (old between new : Proxy) (earlier now : Stage) (came : TakenIn)
    → TakesIn event.client old left rest came between → HasReadCause limit before after came → FollowsClient came between earlier now new
    → HearsClient limit before after left rest old earlier now new
hears_client limit before after left rest old between new earlier now came takes cause follows =
    record { came = came; between = between; takes = takes; cause = cause; follows = follows }

pub hears_server : (limit before after : ℕ) (left rest : Option (List ℕ)) (old between new : Proxy) (earlier now : Stage) (came : TakenIn)
    → TakesIn event.server old left rest came between → HasReadCause limit before after came → FollowsServer came between earlier now new
    → HearsServer limit before after left rest old earlier now new
hears_server limit before after left rest old between new earlier now came takes cause follows =
    record { came = came; between = between; takes = takes; cause = cause; follows = follows }

pub tells : (by : ℕ → ProxyEvent) (waited : List ℕ) (allowed : Bool) (before now : ℕ) (given after : Option (List ℕ)) (old new : Proxy) (earlier later : Stage) (count : Option ℕ)
    → Writes by waited old given after count new → HasWriteCause allowed before now count → MayLetGo count earlier later
    → Tells by waited allowed before now given after old earlier later new
tells by waited allowed before now given after old new earlier later count writes cause stage =
    record { count = count; writes = writes; cause = cause; stage = stage }
