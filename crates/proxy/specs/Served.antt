-- That no client waits in vain: each request that waits for an answer, and each answer that isn't complete, is under way.
use Rattle.std.specs.Prelude.{◌≡◌, Bool, true, false, List, [], ◌∷◌, Option, Some, None}
use Rattle.model_h1.specs.Answer.{asked_of}
use Rattle.model_h1.specs.Sums.{Step}
use Rattle.h1_connection.specs.State.{State, Stands}
use Rattle.model_proxy.specs.Past.{ProxyStep}
use Rattle.model_proxy.specs.Happenings.{Request, Happenings}
use Rattle.proxy.specs.Wants.{IsAnswered, IsComplete, IsWaitedFor, IsAnswering, IsAskedBy, IsTold}
use Rattle.proxy.specs.declared.proxy.Proxy.{Proxy}
use Rattle.proxy.specs.declared.proxy.Unsent.{Unsent}
use Rattle.proxy.specs.declared.proxy.SentRequest.{SentRequest}
use Rattle.proxy.specs.Kept.{Forwards}

-- by whether the head of its answer was passed on: then no request waits for one, and an answer is under way; else a request waits, and
-- none is
abbrev pub FitsAnswer : Bool → State → Type 0
FitsAnswer true client = IsAnswered client × IsAnswering client
FitsAnswer false client = IsComplete client × IsWaitedFor client

-- What the client's connection wants is what the request that is under way is to get, no more and no less: one that waits for a server
-- connection, or was sent on and has no answer yet, gets the head of one; then what is missing of that. It is the newest that the client's
-- connection handed out, and counts as one of HEAD where that does; and its client, if it waited to be told to go on, was told. While one waits
-- to be sent on, no other is under way. Where none is under way, nothing is wanted.
abbrev pub Fits : Option Unsent → Option SentRequest → State → Type 0
Fits (Some u) sent client = FitsAnswer false client × (u.sent.is_answered ≡ false) × IsAskedBy u.sent.is_head client × IsTold client × (sent ≡ None)
Fits None (Some s) client = FitsAnswer s.is_answered client × IsAskedBy s.is_head client × IsTold client
Fits None None client = IsAnswered client × IsComplete client

abbrev pub IsServed : Proxy → Type 0
IsServed p = Fits p.unsent p.sent p.client

-- it stays so, whatever happened before
abbrev pub Serves : Proxy → Proxy → Type 0
Serves old new = (history : List ProxyStep) (all : Happenings) → Forwards old history all → IsServed old → IsServed new

-- ---- step by step

-- something happened on the client's connection, by which it is as it is
abbrev pub HasTrace : State → Type 0
HasTrace client = (trace : List Step) × Stands client trace

pub record Serving (p : Proxy) : Type 0 where
  pub told : HasTrace p.client
  pub served : IsServed p

abbrev pub GoesOnServing : Proxy → Proxy → Type 0
GoesOnServing old new = Serving old → Serving new

-- a request waits for its answer, and none is under way
pub record HasNoReply (p : Proxy) : Type 0 where
  pub told : HasTrace p.client
  pub complete : IsComplete p.client
  pub waited : IsWaitedFor p.client

-- and whether it counts as one of HEAD is as this says
abbrev pub HasNoReplyTo : Bool → Proxy → Type 0
HasNoReplyTo is_head p = HasNoReply p × IsAskedBy is_head p.client

-- no request waits for an answer, and none is under way
pub record WantsNothing (p : Proxy) : Type 0 where
  pub told : HasTrace p.client
  pub answered : IsAnswered p.client
  pub complete : IsComplete p.client

-- ---- the request under way

-- the request under way, which waits to be sent on, or was sent on and has no whole reply, is kept as this
abbrev pub IsKeptAs : SentRequest → Option Unsent → Option SentRequest → Type 0
IsKeptAs this (Some u) sent = u.sent ≡ this
IsKeptAs this None sent = sent ≡ Some this

abbrev pub IsRequestUnderWay : SentRequest → Proxy → Type 0
IsRequestUnderWay this p = IsKeptAs this p.unsent p.sent

-- the newest request that the client's connection handed out is there, and whether its method is HEAD is as this says
abbrev pub IsNewestBy : Bool → List Request → Type 0
IsNewestBy is_head [] = ⊥
IsNewestBy is_head (r ∷ rs) = (asked_of r.pulled.head).is_head ≡ is_head
