-- What the connections did, as their contracts have it.
use Rattle.std.proofs.Common.{◌≡◌, ℕ, Bool, true, List, subst}
use Rattle.model_h1.specs.Answer.{BodySize}
use Rattle.model_client.specs.ClientEvent as asked
use Rattle.model_client.specs.ClientEvent.{ClientRequest}
use Rattle.model_client.specs.ClientStep.{IsClientStep}
use Rattle.h1_client.specs.ClientMeaning as asking
use Rattle.h1_client.specs.State as servers
use Rattle.h1_payload.specs.declared.pulled.Pulled.{Pulled}
use Rattle.h1_connection.specs.State.{State}
use Rattle.h1_connection.specs.declared.connection.heads.NextHead.{NextHead}
use Rattle.proxy.specs.Sides.{BringsNext, BringsPulled, ServerDid, MayAsk}

-- an event that was allowed, and is done
pub server_did : (event : asked.ClientEvent) (a b : servers.State) → b.settings ≡ a.settings → servers.IsAllowed a event
    → servers.GoesOn a event (servers.Is asked.done) b → ServerDid event a b
server_did event a b settings allowed one = record {
  settings = settings;
  allowed = allowed;
  step = subst (λ (o : asked.ClientOutcome). IsClientStep (asking.setting_of a.settings) a.kept event o b.kept) one.says one.step;
}

-- a request that was asked
pub did_ask : (b : Bool) (request : ClientRequest) (size : BodySize) (s t : servers.State) → b ≡ true → MayAsk b request size s t
    → ServerDid (asked.ask request size) s t
did_ask b request size s t is x = subst (λ (b : Bool). MayAsk b request size s t) is x

-- the same piece by another name
pub did_chunk : (bytes more : List ℕ) (s t : servers.State) → more ≡ bytes → ServerDid (asked.chunk more) s t → ServerDid (asked.chunk bytes) s t
did_chunk bytes more s t is x = subst (λ (l : List ℕ). ServerDid (asked.chunk l) s t) is x

-- ---- what comes, by its variant

pub by_next : (n m : NextHead) (a b : State) → n ≡ m → BringsNext n a b → BringsNext m a b
by_next n m a b is x = subst (λ (n : NextHead). BringsNext n a b) is x

pub by_pull : (n m : Pulled) (a b : State) → n ≡ m → BringsPulled n a b → BringsPulled m a b
by_pull n m a b is x = subst (λ (n : Pulled). BringsPulled n a b) is x
