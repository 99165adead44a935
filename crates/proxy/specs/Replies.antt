-- Why a forwarder puts each part of a reply, turn by turn.
use Rattle.std.specs.Prelude.{◌≡◌, ◌⊎◌, ℕ, Bool, true, false, not, ◌&&◌, ◌==◌, if◌then◌else◌, List, [], ◌∷◌, ◌++◌, ⊤, Option, Some, None, is_some, is_none}
use Rattle.http_config.specs.Config.{Settings}
use Rattle.model_h1.specs.Answer.{size_of, is_at_once}
use Rattle.model_h1.specs.Event as on
use Rattle.model_h1.specs.Request.{Head}
use Rattle.model_h1.specs.Sums.{Step}
use Rattle.model_state.specs.Local.{allowed_by}
use Rattle.h1_decoder.specs.HeadItem.{SaysHead}
use Rattle.h1_decoder.specs.ResponseItem.{SaysAnswer}
use Rattle.h1_decoder.specs.declared.decoder.HeadItem.{HeadItem}
use Rattle.h1_decoder.specs.declared.response.ResponseItem.{ResponseItem}
use Rattle.h1_connection.specs.EventMeaning.{setting_of}
use Rattle.h1_connection.specs.State.{State, Stands}
use Rattle.h1_connection.specs.Ticks.{expiry_of}
use Rattle.h1_connection.specs.declared.connection.ticks.Expiry.{Expiry}
use Rattle.model_client.specs.AnswerParse.{is_interim}
use Rattle.model_client.specs.AnswerReading.{Answer}
use Rattle.model_client.specs.ClientEvent as asked
use Rattle.model_client.specs.ClientKept.{client_closing}
use Rattle.model_client.specs.ClientTrace.{Happened}
use Rattle.h1_client.specs.State as servers
use Rattle.model_proxy.specs.Edge.{Edge}
use Rattle.model_proxy.specs.Judged.{is_refused as is_head_refused}
use Rattle.model_proxy.specs.Forward.{is_forwardable}
use Rattle.model_proxy.specs.Answers.{reply_head, reply_size, own_head, says_close}
use Rattle.model_proxy.specs.Past as event
use Rattle.proxy.specs.Leaves.{IsAwaited}
use Rattle.model_proxy.specs.Parts.{Part, begins, continues, ends, breaks_off, goes_on, hands, takes, takes_end, request_breaks, is_refused, is_good, Handed, sends, sends_end, body_bytes, body_end, body_fault}
use Rattle.proxy.specs.Puts.{PutsFor, Puts, MayPut, MayLeave, HandsHead, Hands, HandsNone, Tells, IsRead, CannotTell, CannotPull, IsReadUp}
use Rattle.proxy_heads.specs.Edges.{edge_of}
use Rattle.proxy_heads.specs.ForwardedMeaning.{refusal_of}
use Rattle.proxy_heads.specs.declared.refusal.Refusal.{Refusal}
use Rattle.proxy_heads.specs.declared.refusal.Refusal.TheVariants.{BadHead, NotForwardable}
use Rattle.proxy.specs.declared.proxy.Proxy.{Proxy}
use Rattle.proxy.specs.declared.proxy.Unsent.{Unsent}
use Rattle.proxy.specs.declared.proxy.SentRequest.{SentRequest}
use Rattle.proxy.specs.Sides.{ServerDid}
use Rattle.proxy.specs.Fresh.{IsSentUpstream, SendsWhereItCan, BeginsWhereItMay, SendsBelow}
use Rattle.proxy.specs.Kept.{HoldsNoRequest, Runs, IsUnsent, Goes, GoesBy}
use Rattle.proxy.specs.Served.{GoesOnServing}

-- ---- what is put

-- What a turn does of a reply, and tells of one: nothing; or the head of one of the forwarder's own, where the request's head is refused, where it
-- can't be sent on, where no answer is to be had, or where its body broke; or the head of an answer, to a request of HEAD or to another; then of that reply a piece of
-- its body, its end, or that it is cut. Before a request is sent on its client may be told to go on. A request's body may also break while its
-- reply is under way. And what it does of a request: its head is handed out, and it waits to be sent on; it is sent on; a piece of its body goes
-- on, or its end.
pub data TurnPuts : Type 0 where
  nothing_put opened told_to_go_on sent_on body_whole refused_head not_forwardable no_answer : TurnPuts
  body_on : List ℕ → TurnPuts
  broken_body broken_late : on.BodyFault → TurnPuts
  passed_on : Bool → Answer → TurnPuts
  piece_on : List ℕ → TurnPuts
  end_on cut_off : TurnPuts

-- the empty reply of the forwarder's own with this status
abbrev pub own : ℕ → Part
own status = begins (record { head = own_head status; size = size_of 0 })

-- that of this cause: of a head that is refused the reply closes the connection
abbrev pub refusal_part : Refusal → Part
refusal_part refusal = begins (record { head = refusal_of refusal; size = size_of 0 })

-- the head of a reply that passes an answer on, to a request of HEAD or to another
abbrev pub passed : Bool → Answer → Part
passed is_head a = begins (record { head = reply_head a; size = reply_size is_head a })

-- After parts that are so, the newest first, the rest of the request's body is left where it may be, and then this part is put, unless it may not
-- be put there.
pub record PutsAfter (Are : List Part → Type 0) (part : Part) (old new : State) : Type 0 where
  pub mid : State
  pub first : PutsFor Are old mid
  pub there : State
  pub leaves : MayLeave mid there
  pub last : MayPut part there new

-- after these
abbrev pub PutsLast : List Part → Part → State → State → Type 0
PutsLast before part old new = PutsAfter (λ all. all ≡ before) part old new

-- behind a head that is so, these parts were put
abbrev pub AreBehindHead : (Head → Type 0) → List Part → List Part → Type 0
AreBehindHead Is parts all = (h : Head) × Is h × (all ≡ parts ++ hands h ∷ [])

-- the request of this head can be sent on, and waits for that
abbrev pub IsOpened : Edge → Proxy → Head → Type 0
IsOpened e p h = (is_forwardable e h ≡ true) × (u : Unsent) × (p.unsent ≡ Some u) × IsUnsent e u h

-- the head is refused; or it isn't, and its request can't be sent on
abbrev pub IsHeadRefused : Edge → Head → Type 0
IsHeadRefused e h = is_head_refused e h ≡ true

abbrev pub CannotBeSent : Edge → Head → Type 0
CannotBeSent e h = (is_head_refused e h ≡ false) × (is_forwardable e h ≡ false)

-- the head of an answer is put: all of its reply, or the first part of it
abbrev pub PutsHead : Bool → Part → State → State → Type 0
PutsHead true part old new = PutsLast [] part old new
PutsHead false part old new = MayPut part old new

-- all that a turn does on the client's connection, by the parts of it
abbrev pub HasPut : TurnPuts → Proxy → Proxy → Type 0
HasPut nothing_put old new = Puts [] old.client new.client
HasPut opened old new = PutsFor (AreBehindHead (IsOpened (edge_of old.config.edge) new) []) old.client new.client
HasPut told_to_go_on old new =
    PutsFor (AreBehindHead (λ h. IsOpened (edge_of old.config.edge) new h × ((h.minor == 0) ≡ false)) (goes_on ∷ [])) old.client new.client
HasPut sent_on old new = Puts [] old.client new.client
HasPut (body_on bytes) old new = Puts (takes bytes ∷ []) old.client new.client
HasPut body_whole old new = Puts (takes_end ∷ []) old.client new.client
HasPut refused_head old new = PutsAfter (AreBehindHead (IsHeadRefused (edge_of old.config.edge)) []) (refusal_part BadHead) old.client new.client
HasPut not_forwardable old new = PutsAfter (AreBehindHead (CannotBeSent (edge_of old.config.edge)) []) (own 501) old.client new.client
HasPut no_answer old new = PutsLast [] (own 502) old.client new.client
HasPut (broken_body fault) old new = PutsLast (request_breaks fault ∷ []) (own 400) old.client new.client
HasPut (broken_late fault) old new = Puts (request_breaks fault ∷ []) old.client new.client
HasPut (passed_on is_head a) old new = PutsHead (is_at_once (reply_size is_head a)) (passed is_head a) old.client new.client
HasPut (piece_on bytes) old new = Puts (continues bytes ∷ []) old.client new.client
HasPut end_on old new = PutsLast [] ends old.client new.client
HasPut cut_off old new = MayPut breaks_off old.client new.client

-- ---- why

-- this request was sent on, and no head was passed on as its answer's
pub record IsUnanswered (sent : SentRequest) (p : Proxy) : Type 0 where
  pub runs : Runs sent p
  pub unanswered : sent.is_answered ≡ false

-- this request was sent on, and the head of its answer was passed on
pub record WasAnswered (sent : SentRequest) (p : Proxy) : Type 0 where
  pub runs : Runs sent p
  pub answered : sent.is_answered ≡ true

-- What is kept of a request that was sent on, but for how far its body is: whether its method is HEAD, whether the head of its answer was
-- passed on, and whether that says that its server closes the connection.
pub record Marks : Type 0 where
  pub is_head : Bool
  pub is_answered : Bool
  pub closes : Bool

abbrev pub marks_of : SentRequest → Marks
marks_of sent = record { is_head = sent.is_head; is_answered = sent.is_answered; closes = sent.closes }

-- A request that was sent on goes on under these marks, by the same connection to a server, which handed out these parts of answers, the newest
-- first, and no others.
pub record GoesOnBy (marks : Marks) (handed : List Handed) (server : servers.State) (q : Proxy) : Type 0 where
  pub sent : SentRequest
  pub runs : Runs sent q
  pub marked : marks_of sent ≡ marks
  pub after : servers.State
  pub is_there : q.server ≡ Some after
  pub hands : Hands handed server after

-- nothing was handed out: the request waits on for its answer, or for more of it
abbrev pub GoesOnWaiting : Marks → servers.State → Proxy → Type 0
GoesOnWaiting marks server q = GoesOnBy marks [] server q

-- A request that was sent on goes on as this, by the same connection to a server: nothing of an answer was handed out there, and then this event,
-- which brings more of the request's body, was allowed and done.
pub record SendsOn (event : asked.ClientEvent) (server : servers.State) (sent : SentRequest) (q : Proxy) : Type 0 where
  pub runs : Runs sent q
  pub mid : servers.State
  pub quiet : HandsNone server mid
  pub after : servers.State
  pub is_there : q.server ≡ Some after
  pub did : ServerDid event mid after

-- of the request that runs before
abbrev pub SendsMore : asked.ClientEvent → (SentRequest → SentRequest) → Proxy → Proxy → Type 0
SendsMore event change old new =
    (sent : SentRequest) × (s : servers.State) × Runs sent old × (old.server ≡ Some s) × SendsOn event s (change sent) new

-- no request is under way any more, and the server connection is closed
pub record IsDropped (q : Proxy) : Type 0 where
  pub unsent : q.unsent ≡ None
  pub sent : q.sent ≡ None
  pub server : q.server ≡ None

-- a server connection may serve another request: both messages are whole, the answer didn't say close, and it isn't to end
abbrev pub may_keep : Bool → Bool → servers.State → Bool
may_keep is_whole closes s = is_whole && not closes && is_none (client_closing s.kept)

-- Its reply is complete. The server connection is kept where it may serve another request, and is closed elsewhere.
pub record ReplyIsOver (is_whole closes : Bool) (last : servers.State) (q : Proxy) : Type 0 where
  pub unsent : q.unsent ≡ None
  pub sent : q.sent ≡ None
  pub server : q.server ≡ (if may_keep is_whole closes last then Some last else None)

-- the next answer is one that is never passed on, or a fault, or none will come
abbrev pub IsBad : asked.ClientOutcome → Type 0
IsBad (asked.answer a) = is_refused a ≡ true
IsBad (asked.fault f) = ⊤
IsBad (asked.closed end) = ⊤
IsBad o = ⊥

abbrev pub LacksAnswer : Option servers.State → Type 0
LacksAnswer None = ⊤
LacksAnswer (Some s) = CannotTell s ⊎ ((o : asked.ClientOutcome) × IsBad o × (t : servers.State) × Tells o s t)

-- A reply that ends with its head is complete; of another the connection to the server has the rest.
abbrev pub Follows : Bool → SentRequest → Answer → servers.State → Proxy → Type 0
Follows true sent a server q = ReplyIsOver sent.is_whole (says_close a) server q
Follows false sent a server q =
    GoesOnBy (record { is_head = sent.is_head; is_answered = true; closes = says_close a }) [] server q
    × (q.sent ≡ Some (record sent { is_answered = true; closes = says_close a }))

-- an answer's head is passed on
abbrev pub FollowsHead : SentRequest → Answer → servers.State → Proxy → Type 0
FollowsHead sent a server q = Follows (is_at_once (reply_size sent.is_head a)) sent a server q

-- this answer was handed out next, and is one to be passed on
abbrev pub HasAnswer : SentRequest → Answer → Option servers.State → Proxy → Type 0
HasAnswer sent a None q = ⊥
HasAnswer sent a (Some s) q = (is_good a ≡ true) × IsRead a × (t : servers.State) × Tells (asked.answer a) s t × FollowsHead sent a t q

-- these bytes of the answer's body were handed out next
abbrev pub HasBytes : Marks → List ℕ → Option servers.State → Proxy → Type 0
HasBytes marks bytes None q = ⊥
HasBytes marks bytes (Some s) q = GoesOnBy marks (body_bytes bytes ∷ []) s q

-- the end of the answer's body was handed out next, or it was read to its end before
abbrev pub HasEnd : SentRequest → Option servers.State → Proxy → Type 0
HasEnd sent None q = ⊥
HasEnd sent (Some s) q = (t : servers.State) × (Hands (body_end ∷ []) s t ⊎ ((t ≡ s) × IsReadUp s)) × ReplyIsOver sent.is_whole sent.closes t q

-- a fault of the answer's body was handed out next; or it wasn't read to its end, and no more of it can be asked for
abbrev pub LacksEnd : Option servers.State → Type 0
LacksEnd None = ⊤
LacksEnd (Some s) = ((fault : on.BodyFault) × (t : servers.State) × Hands (body_fault fault ∷ []) s t) ⊎ (CannotPull s × (IsReadUp s → ⊥))

-- no head of its answer is there whole, while one may come
abbrev pub AwaitsAnswer : Option servers.State → Type 0
AwaitsAnswer None = ⊥
AwaitsAnswer (Some s) = (t : servers.State) × HandsNone s t × ((trace : List Happened) → servers.Stands s trace → IsAwaited t)

-- Why a turn does so. Where nothing is put, a request that was sent on and has its server connection goes on unchanged on that, which handed
-- out nothing of an answer; of other requests this says nothing. A client of HTTP/1.1 is told to go on where a head was handed out that can be
-- sent on, 400 is put for one that is refused, and 501 for one that can't be sent on, while no other request was under way; 502 where the request that was sent on has no server connection, or no answer will come by it that could be passed on;
-- 400 where its body broke while no head of its answer was there. A request's body may break later, and then the reply goes on. The head of an
-- answer is put as it was handed out for the request that was sent on, a piece of its body as it was handed out next, its end once that was
-- handed out; and it is cut only where its body is broken, ended early, or can't come. The server connection is closed for 400, 501 and 502, and
-- where a reply is cut.
-- A head is handed out while no request is under way, and one that waits is sent on where it can be (`IsSentUpstream`). A piece of its body goes to the
-- server as it was taken from the client, and its end once that was.
abbrev pub HasCause : TurnPuts → Proxy → Proxy → Type 0
HasCause nothing_put old new = (sent : SentRequest) (s : servers.State) → Runs sent old → old.server ≡ Some s → GoesOnWaiting (marks_of sent) s new
HasCause opened old new = HoldsNoRequest old
HasCause sent_on old new = (u : Unsent) × (old.unsent ≡ Some u) × IsSentUpstream u old new
HasCause (body_on bytes) old new = SendsMore (asked.chunk bytes) (λ sent. sent) old new
HasCause body_whole old new = SendsMore asked.body_end (λ sent. record sent { is_whole = true }) old new
HasCause (broken_late fault) old new =
    (sent : SentRequest) × WasAnswered sent old × ((s : servers.State) → old.server ≡ Some s → GoesOnWaiting (marks_of sent) s new)
HasCause (passed_on is_head a) old new = (sent : SentRequest) × IsUnanswered sent old × (sent.is_head ≡ is_head) × HasAnswer sent a old.server new
HasCause (piece_on bytes) old new = (sent : SentRequest) × WasAnswered sent old × HasBytes (marks_of sent) bytes old.server new
HasCause end_on old new = (sent : SentRequest) × WasAnswered sent old × HasEnd sent old.server new
HasCause cut_off old new = (sent : SentRequest) × WasAnswered sent old × LacksEnd old.server × IsDropped new
HasCause no_answer old new = (sent : SentRequest) × IsUnanswered sent old × LacksAnswer old.server × IsDropped new
HasCause told_to_go_on old new =
    HoldsNoRequest old × (c : State) × HandsHead (λ h. (is_forwardable (edge_of old.config.edge) h ≡ true) × ((h.minor == 0) ≡ false)) old.client c
HasCause refused_head old new =
    HoldsNoRequest old × (c : State) × HandsHead (λ h. is_head_refused (edge_of old.config.edge) h ≡ true) old.client c × IsDropped new
HasCause not_forwardable old new =
    HoldsNoRequest old × (c : State)
    × HandsHead (λ h. (is_head_refused (edge_of old.config.edge) h ≡ false) × (is_forwardable (edge_of old.config.edge) h ≡ false)) old.client c
    × IsDropped new
HasCause (broken_body fault) old new = (sent : SentRequest) × IsUnanswered sent old × AwaitsAnswer old.server × IsDropped new

-- How far the body of the request that was sent on is, after a turn: at its end after that went on, broken after it broke, and else as far as
-- before; of one that is sent on now this says nothing.
abbrev pub IsBodyBehind : TurnPuts → SentRequest → SentRequest → Type 0
IsBodyBehind sent_on old new = ⊤
IsBodyBehind body_whole old new = (new.is_whole ≡ true) × (new.is_broken ≡ old.is_broken)
IsBodyBehind (broken_late fault) old new = (new.is_whole ≡ old.is_whole) × (new.is_broken ≡ true)
IsBodyBehind puts old new = (new.is_whole ≡ old.is_whole) × (new.is_broken ≡ old.is_broken)

abbrev pub KeepsBody : TurnPuts → Proxy → Proxy → Type 0
KeepsBody puts old new = (a b : SentRequest) → old.sent ≡ Some a → new.sent ≡ Some b → IsBodyBehind puts a b

-- where nothing is put, a request that waits to be sent on still does, and no other one does
abbrev pub KeepsUnsent : TurnPuts → Proxy → Proxy → Type 0
KeepsUnsent nothing_put old new = new.unsent ≡ old.unsent
KeepsUnsent puts old new = ⊤

-- A turn puts one part of a reply at most, for its cause; or it hands out a request, sends one on, or more of its body.
abbrev pub TurnReplies : Proxy → Proxy → Type 0
TurnReplies old new = (puts : TurnPuts) × HasCause puts old new × HasPut puts old new × KeepsBody puts old new × KeepsUnsent puts old new

-- the server connection stays; it is closed where it is to end, or a request was handed out that can't be sent on
abbrev pub KeepsServer : Proxy → Proxy → Type 0
KeepsServer old new =
    (new.server ≡ old.server)
    ⊎ (((new.server ≡ None) × (s : servers.State) × (old.server ≡ Some s) × (is_some (client_closing s.kept) ≡ true))
    ⊎ ((new.server ≡ None) × (c : State) × HandsHead (λ h. is_forwardable (edge_of old.config.edge) h ≡ false) old.client c))

-- a turn that begins while no request is under way sends none on, and keeps the server connection
abbrev pub KeepsIdle : Proxy → Proxy → Type 0
KeepsIdle old new = HoldsNoRequest old → (new.sent ≡ None) × KeepsServer old new

-- A turn. What is kept after it is what is left of all that happened, and what is wanted is what is under way; it begins where it may, a request that
-- waits is sent on where it can be, and nothing is put behind more than may wait.
pub record IsTurn (old new : Proxy) : Type 0 where
  pub goes : Goes old new
  pub serves : GoesOnServing old new
  pub begins : BeginsWhereItMay old new
  pub replies : TurnReplies old new
  pub keeps : KeepsIdle old new
  pub sends : SendsWhereItCan old new
  pub below : SendsBelow old new

-- turns one after another, if there are any
pub data HasReplied (old : Proxy) : Proxy → Type 0 where
  nothing : HasReplied old old
  turned : (mid new : Proxy) → HasReplied old mid → IsTurn mid new → HasReplied old new

-- an event with this outcome, and nothing else, came on the client's connection, or on one to a server
abbrev pub ClientAdds : on.Event → on.Outcome → State → State → Type 0
ClientAdds event o old new = (trace : List Step) → Stands old trace → Stands new (record { event = event; outcome = o } ∷ trace)

abbrev pub ServerAdds : asked.ClientEvent → asked.ClientOutcome → servers.State → servers.State → Type 0
ServerAdds event o old new = (trace : List Happened) → servers.Stands old trace → servers.Stands new (record { event = event; outcome = o } ∷ trace)

abbrev pub AddsTo : asked.ClientEvent → asked.ClientOutcome → Option servers.State → Option servers.State → Type 0
AddsTo event o old new = (s : servers.State) × (t : servers.State) × (old ≡ Some s) × (new ≡ Some t) × ServerAdds event o s t

-- What an event of the forwarder makes of its client's connection: the event of that of the same kind, with the outcome that is told, or, where bytes
-- find no room or the connection takes no end, nothing; an event on the other side leaves it as it is.
abbrev pub ClientDoes : event.ProxyEvent → event.ProxyOutcome → State → State → Type 0
ClientDoes (event.client bytes) (event.took count) old new = ((count ≡ 0) × (new ≡ old)) ⊎ ClientAdds (on.read bytes) (on.took count) old new
ClientDoes event.client_eof event.done old new =
    ((new ≡ old) × (allowed_by (setting_of old.settings) old.kept on.eof ≡ false))
    ⊎ ((allowed_by (setting_of old.settings) old.kept on.eof ≡ true) × ClientAdds on.eof on.done old new)
ClientDoes (event.to_client count) (event.gave bytes) old new = ClientAdds (on.write count) (on.gave bytes) old new
ClientDoes (event.tick moment) event.done old new = (expiry : Expiry) × ClientAdds (on.tick moment) (expiry_of expiry) old new
ClientDoes (event.server bytes) (event.took count) old new = new ≡ old
ClientDoes event.server_eof event.done old new = new ≡ old
ClientDoes event.connected event.done old new = new ≡ old
ClientDoes event.refused event.done old new = new ≡ old
ClientDoes (event.to_server count) (event.gave bytes) old new = new ≡ old
ClientDoes by outcome old new = ⊥

-- And of the server connection: likewise, and a new one is there where it connects.
abbrev pub ServerDoes : event.ProxyEvent → event.ProxyOutcome → Settings → Option servers.State → Option servers.State → Type 0
ServerDoes (event.server bytes) (event.took count) config old new =
    ((count ≡ 0) × (new ≡ old)) ⊎ AddsTo (asked.read bytes) (asked.took count) old new
ServerDoes event.server_eof outcome config old new = AddsTo asked.eof asked.done old new
ServerDoes (event.to_server count) (event.gave bytes) config old new = AddsTo (asked.write count) (asked.gave bytes) old new
ServerDoes event.connected outcome config old new = new ≡ Some (servers.fresh_state config)
ServerDoes by outcome config old new = new ≡ old

-- an event changes neither the request that waits nor the one that was sent on, and puts no part of a reply
pub record PutsNothing (by : event.ProxyEvent) (outcome : event.ProxyOutcome) (old new : Proxy) : Type 0 where
  pub client : ClientDoes by outcome old.client new.client
  pub server : ServerDoes by outcome old.config.connections old.server new.server
  pub unsent : new.unsent ≡ old.unsent
  pub sent : new.sent ≡ old.sent

-- an event puts nothing of a reply itself, and then come turns
pub record Replies (by : event.ProxyEvent) (outcome : event.ProxyOutcome) (old new : Proxy) : Type 0 where
  pub mid : Proxy
  pub goes : GoesBy by outcome old mid
  pub serves : GoesOnServing old mid
  pub event : PutsNothing by outcome old mid
  pub turns : HasReplied mid new

-- A server connection is refused for a request that waits: it gets 502, and is no longer under way.
pub record RepliesRefused (old new : Proxy) : Type 0 where
  pub mid : Proxy
  pub goes : GoesBy event.refused event.done old mid
  pub serves : GoesOnServing old mid
  pub idle : HoldsNoRequest mid
  pub server : mid.server ≡ old.server
  pub puts : PutsLast [] (own 502) old.client mid.client
  pub turns : HasReplied mid new

-- ---- over all turns

-- Each piece of a body that was handed out was put, in order, and nothing else was; and the request's body may have broken meanwhile.
pub data AreCarried : List Handed → List Part → Type 0 where
  none_yet : AreCarried [] []
  one_more : (bytes : List ℕ) (handed : List Handed) (parts : List Part) → AreCarried handed parts
      → AreCarried (body_bytes bytes ∷ handed) (continues bytes ∷ parts)
  took_more : (bytes : List ℕ) (handed : List Handed) (parts : List Part) → AreCarried handed parts
      → AreCarried (sends bytes ∷ handed) (takes bytes ∷ parts)
  took_end : (handed : List Handed) (parts : List Part) → AreCarried handed parts → AreCarried (sends_end ∷ handed) (takes_end ∷ parts)
  broke_late : (fault : on.BodyFault) (handed : List Handed) (parts : List Part) → AreCarried handed parts
      → AreCarried handed (request_breaks fault ∷ parts)

-- the reply that is under way goes on by the same server connection, and all that was handed out of its answer was put
pub record CarriesOn (marks : Marks) (server : servers.State) (old new : Proxy) : Type 0 where
  pub handed : List Handed
  pub parts : List Part
  pub carried : AreCarried handed parts
  pub goes : GoesOnBy marks handed server new
  pub puts : Puts parts old.client new.client

-- the reply is complete, or cut
abbrev pub IsDone : Proxy → Proxy → Type 0
IsDone old new = (HasCause end_on old new × HasPut end_on old new) ⊎ (HasCause cut_off old new × HasPut cut_off old new)

-- it goes on over all these turns, or up to one where it ends; of what comes after that this says nothing
abbrev pub IsCarried : Marks → servers.State → Proxy → Proxy → Type 0
IsCarried marks server old new =
    CarriesOn marks server old new ⊎ ((mid : Proxy) × (after : Proxy) × CarriesOn marks server old mid × IsDone mid after × HasReplied after new)

-- ---- part by part

-- a request that has no more of its answer to come: its reply is cut, or it gets one of the forwarder's own
abbrev pub Fails : Bool → State → Proxy → Type 0
Fails true client q = MayPut breaks_off client q.client × IsDropped q
Fails false client q = PutsLast [] (own 502) client q.client × IsDropped q

-- the request's body broke: where its answer was passed on, that goes on
abbrev pub Breaks : Bool → SentRequest → servers.State → State → Proxy → Type 0
Breaks true sent server client q =
    Puts [] client q.client × GoesOnWaiting (marks_of sent) server q × (q.sent ≡ Some (record sent { is_broken = true }))
Breaks false sent server client q = PutsLast [] (own 400) client q.client × IsDropped q

-- none of its body was sent on, or a piece of it, or its end; or it broke
abbrev pub PassesBody : SentRequest → servers.State → State → Proxy → Type 0
PassesBody sent server client q =
    (Puts [] client q.client × GoesOnWaiting (marks_of sent) server q × (q.sent ≡ Some sent))
    ⊎ (((bytes : List ℕ) × Puts (takes bytes ∷ []) client q.client × SendsOn (asked.chunk bytes) server sent q)
    ⊎ ((Puts (takes_end ∷ []) client q.client × SendsOn asked.body_end server (record sent { is_whole = true }) q)
    ⊎ ((fault : on.BodyFault) × (c : State) × Puts (request_breaks fault ∷ []) client c × Breaks sent.is_answered sent server c q)))

-- this answer's head is passed on
abbrev pub PassesHead : SentRequest → servers.State → ResponseItem → State → Proxy → Type 0
PassesHead sent server item client q =
    (a : Answer) → IsRead a → SaysAnswer item a → PutsHead (is_at_once (reply_size sent.is_head a)) (passed sent.is_head a) client q.client × FollowsHead sent a server q

-- the answer is refused, passed over as an interim one, or passed on
abbrev pub UsesAnswer : SentRequest → servers.State → Answer → Proxy → Proxy → Type 0
UsesAnswer sent server a p q =
    ((is_refused a ≡ true) × PutsLast [] (own 502) p.client q.client × IsDropped q)
    ⊎ (((is_refused a ≡ false) × (is_interim a.status ≡ true) × Puts [] p.client q.client × GoesOnWaiting (marks_of sent) server q
    × (q.sent ≡ Some sent))
    ⊎ ((is_good a ≡ true) × PutsHead (is_at_once (reply_size sent.is_head a)) (passed sent.is_head a) p.client q.client × FollowsHead sent a server q))

abbrev pub TakesAnswer : SentRequest → servers.State → ResponseItem → Proxy → Proxy → Type 0
TakesAnswer sent server item p q =
    sent.is_answered ≡ false → (a : Answer) → IsRead a → SaysAnswer item a → UsesAnswer sent server a p q

-- no request is sent on yet, and the server connection is kept, or this request can't be sent on
abbrev pub KeepsFor : HeadItem → Proxy → Proxy → Type 0
KeepsFor item old new =
    (new.sent ≡ None) × ((new.server ≡ old.server) ⊎ ((new.server ≡ None) × ((h : Head) → SaysHead item h → is_forwardable (edge_of old.config.edge) h ≡ false)))

-- A client of HTTP/1.1 is told to go on where it waits for that; one of HTTP/1.0 is told nothing.
abbrev pub TellsToGoOn : HeadItem → State → State → Type 0
TellsToGoOn item old new =
    (((h : Head) → SaysHead item h → (h.minor == 0) ≡ false) × MayPut goes_on old new)
    ⊎ (((h : Head) → SaysHead item h → (h.minor == 0) ≡ true) × (new ≡ old))

-- why a request isn't sent on, by whether its head is refused
abbrev pub declined : Bool → Refusal
declined true = BadHead
declined false = NotForwardable

-- the reply to a request that isn't sent on
abbrev pub Declines : Edge → HeadItem → State → Proxy → Type 0
Declines e item old q =
    (refused : Bool) × ((h : Head) → SaysHead item h → is_head_refused e h ≡ refused) × PutsLast [] (refusal_part (declined refused)) old q.client × IsDropped q

-- A request that is open can be sent on, and its client is told to go on; or it can't be.
abbrev pub Opens : Edge → HeadItem → State → Proxy → Type 0
Opens e item old q =
    (((h : Head) → SaysHead item h → is_forwardable e h ≡ true) × TellsToGoOn item old q.client
    × (u : Unsent) × (q.unsent ≡ Some u) × ((h : Head) → SaysHead item h → IsUnsent e u h))
    ⊎ (((h : Head) → SaysHead item h → is_forwardable e h ≡ false) × Declines e item old q)
