-- What the calls of the two connections do.
use Rattle.std.specs.Prelude.{◌≡◌, ◌⊎◌, ℕ, ◌≤◌, Bool, true, false, IsTrue, List}
use Rattle.model_h1.specs.Request.{Head}
use Rattle.model_h1.specs.Event as on
use Rattle.model_h1.specs.Sums as sums
use Rattle.model_state.specs.StandsFor.{StandsFor}
use Rattle.h1_payload.specs.Rests.{fault_of}
use Rattle.h1_payload.specs.declared.pulled.Pulled.{Pulled}
use Rattle.h1_payload.specs.declared.pulled.Pulled.TheVariants as pulled
use Rattle.h1_decoder.specs.HeadItem.{SaysHead}
use Rattle.h1_decoder.specs.declared.decoder.HeadItem.{HeadItem}
use Rattle.h1_connection.specs.EventMeaning.{setting_of}
use Rattle.h1_connection.specs.State.{State}
use Rattle.h1_connection.specs.declared.connection.heads.NextHead.{NextHead}
use Rattle.h1_connection.specs.declared.connection.heads.NextHead.TheVariants as next
use Rattle.h1_client.specs.ClientMeaning as asking
use Rattle.h1_client.specs.State as servers
use Rattle.model_client.specs.ClientEvent as asked
use Rattle.model_client.specs.ClientEvent.{ClientRequest}
use Rattle.model_client.specs.ClientKept.{client_allows}
use Rattle.model_client.specs.ClientStep.{IsClientStep}
use Rattle.model_h1.specs.Answer.{BodySize}
use Rattle.model_client.specs.ClientTrace.{Happened}
use Rattle.model_proxy.specs.Left.{client_left, server_left}
use Rattle.model_proxy.specs.Moves.{HasBrought, Brings, Stays}

-- ---- the client's side

-- no more is left to do with what came from the client
abbrev pub LeavesNoMore : State → State → Type 0
LeavesNoMore old new = (trace : List sums.Step) → StandsFor (setting_of old.settings) old.kept trace → client_left new.kept ≤ client_left old.kept

-- the connection brought this outcome
pub record ClientBrings (o : on.Outcome) (old new : State) : Type 0 where
  pub settings : new.settings ≡ old.settings
  pub brings : Brings (setting_of old.settings) o old.kept new.kept
  pub left : LeavesNoMore old new

-- it brought a head that this item says
pub record ClientBringsHead (item : HeadItem) (old new : State) : Type 0 where
  pub settings : new.settings ≡ old.settings
  pub brings : (trace : List sums.Step) → StandsFor (setting_of old.settings) old.kept trace → (h : Head) × SaysHead item h
      × (more : List sums.Step) × StandsFor (setting_of old.settings) new.kept more × HasBrought (on.head h) trace more
  pub left : LeavesNoMore old new

-- what comes where the next head is asked for
abbrev pub BringsNext : NextHead → State → State → Type 0
BringsNext (next.Head item) old new = ClientBringsHead item old new
BringsNext (next.Fault fault) old new = ClientBrings on.done old new
BringsNext next.Pending old new = ClientBrings on.done old new
BringsNext (next.Closed end) old new = ClientBrings on.done old new

-- what comes where more of a body is asked for
abbrev pub BringsPulled : Pulled → State → State → Type 0
BringsPulled (pulled.Bytes bytes) old new = ClientBrings (on.bytes bytes) old new
BringsPulled (pulled.Trailers entries) old new = ClientBrings on.done old new
BringsPulled pulled.End old new = ClientBrings on.body_ended old new
BringsPulled (pulled.Broken fault) old new = ClientBrings (on.broken_by (fault_of fault)) old new
BringsPulled pulled.Pending old new = ClientBrings on.done old new

-- ---- a server's side

-- nothing was written towards the server, or is to be
pub record ServerStays (old new : servers.State) : Type 0 where
  pub settings : new.settings ≡ old.settings
  pub stays : Stays (asking.setting_of old.settings) old.kept new.kept
  pub left : (trace : List Happened) → servers.Stands old trace → server_left new.kept ≤ server_left old.kept

-- the moment that it was told last stays
abbrev pub KeepsTime : servers.State → servers.State → Type 0
KeepsTime old new = (trace : List Happened) → servers.Stands old trace → new.kept.now ≡ old.kept.now

-- the event was allowed, and is done
pub record ServerDid (event : asked.ClientEvent) (old new : servers.State) : Type 0 where
  pub settings : new.settings ≡ old.settings
  pub allowed : IsTrue (client_allows (asking.setting_of old.settings) old.kept event)
  pub step : IsClientStep (asking.setting_of old.settings) old.kept event asked.done new.kept

-- the event isn't allowed, and nothing was done
pub record ServerDidNot (event : asked.ClientEvent) (old new : servers.State) : Type 0 where
  pub refused : client_allows (asking.setting_of old.settings) old.kept event ≡ false
  pub same : new ≡ old

-- a request was asked, or it can't be
abbrev pub MayAsk : Bool → ClientRequest → BodySize → servers.State → servers.State → Type 0
MayAsk true request size old new = ServerDid (asked.ask request size) old new
MayAsk false request size old new = ServerDidNot (asked.ask request size) old new

-- it was told this moment, or the moment may not come
abbrev pub IsToldMoment : ℕ → servers.State → servers.State → Type 0
IsToldMoment moment old new = ServerDid (asked.tick moment) old new ⊎ ServerDidNot (asked.tick moment) old new

-- a piece of the body that is sent may come, and its end
pub record SendsBody (s : servers.State) : Type 0 where
  pub chunk : (bytes : List ℕ) → IsTrue (client_allows (asking.setting_of s.settings) s.kept (asked.chunk bytes))
  pub ends : IsTrue (client_allows (asking.setting_of s.settings) s.kept asked.body_end)
