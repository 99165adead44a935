-- What a forwarder keeps, and what happened by it.
use Rattle.std.specs.Prelude.{◌≡◌, ℕ, ◌-◌, Bool, true, false, not, List, [], ◌∷◌, length, Option, Some, None, is_some, ⊤}
use Rattle.model_h1.specs.Setting.{Setting}
use Rattle.model_h1.specs.Request.{Head, has_body}
use Rattle.model_h1.specs.Answer.{BodySize, is_at_once}
use Rattle.model_state.specs.Kept.{Kept}
use Rattle.model_state.specs.Reply.{stated}
use Rattle.model_state.specs.StandsFor.{StandsFor}
use Rattle.model_client.specs.RequestText.{request_text, asked_shape, given_request_text, joined}
use Rattle.model_client.specs.ClientEvent.{ClientRequest}
use Rattle.model_client.specs.ClientKept.{ClientKept, SendingBody}
use Rattle.model_client.specs.ClientTrace.{IsClientTrace, sending_of}
use Rattle.model_proxy.specs.Edge.{Edge}
use Rattle.model_proxy.specs.Forward.{is_forwardable, Sent, forwarded, forwarded_size}
use Rattle.model_proxy.specs.Past.{ProxyStep, ProxyEvent, ProxyOutcome}
use Rattle.model_proxy.specs.Exchange.{Pulled, unpulled}
use Rattle.model_proxy.specs.Happenings.{Request, Link, Happenings, sent_of, AreWhole, IsForwardedBy}

-- The newest request of the client: there is none that is under way; it waits to be sent on as this request, with a body of this size,
-- whether it is whole, since it has none, and whether its body broke; or it was sent on, whether the end of its body was, and whether that broke.
pub data UnderWay : Type 0 where
  nothing : UnderWay
  waits : ClientRequest → BodySize → Bool → Bool → UnderWay
  is_sent : Bool → Bool → UnderWay

-- The client's connection, the one to a server, if there is one, and the request that is under way.
pub record ForwarderKept : Type 0 where
  pub client : Kept
  pub server : Option ClientKept
  pub under_way : UnderWay

-- ---- what it says

-- the newest connection is the one that is there
abbrev pub IsServer : Setting → Option ClientKept → List Link → Type 0
IsServer setting None links = ⊤
IsServer setting (Some k) [] = ⊥
IsServer setting (Some k) (l ∷ links) = IsClientTrace setting l.happened k

-- nothing on the connection that is there misses its end
abbrev pub IsIdle : Option ClientKept → List Link → Type 0
IsIdle None links = ⊤
IsIdle (Some k) [] = ⊥
IsIdle (Some k) (l ∷ links) = AreWhole l.sent

-- The text of this request is that of what is to be sent on for the client's, of which nothing was taken or sent.
pub record IsWaiting (e : Edge) (q : ClientRequest) (size : BodySize) (is_whole is_broken : Bool) (r : Request) : Type 0 where
  pub unsent : r.sent_at ≡ None
  pub unrefused : r.was_refused ≡ false
  pub untaken : r.pulled ≡ unpulled r.pulled.head
  pub forwardable : is_forwardable e r.pulled.head ≡ true
  pub method : q.head.method ≡ r.pulled.head.method
  pub whole : is_whole ≡ not (has_body r.pulled.head.body)
  pub unbroken : is_broken ≡ false
  pub sized : size ≡ forwarded_size r.pulled.head
  pub text : (moment : ℕ) → request_text q.head (asked_shape size) size q.connection moment ≡ given_request_text (forwarded (sent_of e r.pulled moment))

-- the body that is sent is that of the request, as far as it was taken
pub record IsSending (p : Pulled) (body : SendingBody) : Type 0 where
  pub unended : p.is_ended ≡ false
  pub shape : body.shape ≡ asked_shape (forwarded_size p.head)
  pub missing : body.missing ≡ stated (asked_shape (forwarded_size p.head)) - length (joined p.pieces)

-- the marks say of the body what was taken of it: its end, and that it broke or was cut
pub record IsMarked (is_whole is_broken : Bool) (p : Pulled) : Type 0 where
  pub whole : is_whole ≡ p.is_ended
  pub broken : is_broken ≡ p.is_broken

-- The newest request was sent on as the newest of this connection. Until its end was taken, more of its body may be sent on there, if it has any.
pub record IsSentOn (e : Edge) (is_whole is_broken : Bool) (r : Request) (l : Link) : Type 0 where
  pub moment : ℕ
  pub at : r.sent_at ≡ Some moment
  pub before : List Sent
  pub sent : l.sent ≡ sent_of e r.pulled moment ∷ before
  pub marked : IsMarked is_whole is_broken r.pulled
  pub body : (body : SendingBody) → sending_of l.happened ≡ Some body → IsSending r.pulled body
  pub sends : r.pulled.is_ended ≡ false → is_at_once (forwarded_size r.pulled.head) ≡ false → is_some (sending_of l.happened) ≡ true

abbrev pub IsUnderWay : Edge → UnderWay → List Request → Option ClientKept → List Link → Type 0
IsUnderWay e nothing rs server links = IsIdle server links
IsUnderWay e (waits q size whole broken) [] server links = ⊥
IsUnderWay e (waits q size whole broken) (r ∷ rs) server links = IsIdle server links × IsWaiting e q size whole broken r
IsUnderWay e (is_sent whole broken) [] None links = ⊥
IsUnderWay e (is_sent whole broken) (r ∷ rs) None links = (moment : ℕ) × (r.sent_at ≡ Some moment) × IsMarked whole broken r.pulled
IsUnderWay e (is_sent whole broken) (r ∷ rs) (Some k) (l ∷ links) = IsSentOn e whole broken r l
IsUnderWay e (is_sent whole broken) [] (Some k) links = ⊥
IsUnderWay e (is_sent whole broken) (r ∷ rs) (Some k) [] = ⊥

-- What a forwarder keeps is what is left of all that happened by these events.
pub record Carries (e : Edge) (theirs ours : Setting) (k : ForwarderKept) (history : List ProxyStep) (all : Happenings) : Type 0 where
  pub stands : StandsFor theirs k.client all.client
  pub server : IsServer ours k.server all.links
  pub under_way : IsUnderWay e k.under_way all.requests k.server all.links
  pub forwarded : IsForwardedBy e theirs ours history all

-- a request with this head was handed out last, and nothing of it was taken or sent
pub record IsNewest (h : Head) (all : Happenings) : Type 0 where
  pub newest : Request
  pub others : List Request
  pub are : all.requests ≡ newest ∷ others
  pub pulled : newest.pulled ≡ unpulled h
  pub unsent : newest.sent_at ≡ None
  pub unrefused : newest.was_refused ≡ false

-- ---- how it goes on

-- without an event of its own
abbrev pub Keeps : Edge → Setting → Setting → ForwarderKept → ForwarderKept → Type 0
Keeps e client server old new =
    (history : List ProxyStep) (all : Happenings) → Carries e client server old history all → (after : Happenings) × Carries e client server new history after

-- by this event, with this outcome
abbrev pub KeepsBy : Edge → Setting → Setting → ProxyEvent → ProxyOutcome → ForwarderKept → ForwarderKept → Type 0
KeepsBy e client server event outcome old new =
    (history : List ProxyStep) (all : Happenings) → Carries e client server old history all
    → (after : Happenings) × Carries e client server new (record { event = event; outcome = outcome } ∷ history) after
