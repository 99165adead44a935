-- The steps of a dispatcher.
use Rattle.std.specs.Prelude.{◌≡◌, ◌≤◌, ◌<◌, ◌+◌, ◌⊎◌, ℕ, zero, suc, Bool, true, false, Option, Some, None, List, [], ◌∷◌, length, take, ⊤, Result, Ok, Err}
use Rattle.futures.specs.declared.task.Poll.{Poll}
use Rattle.futures.specs.declared.task.Poll.TheVariants.{Ready, Pending}
use Rattle.http_config.specs.declared.Failed.{Failed}
use Rattle.http_framing.specs.declared.body.size.BodySize.{BodySize}
use Rattle.http_framing.specs.declared.body.size.BodySize.TheVariants.{None as NoBody, Sized, Stream}
use Rattle.http_bodies.specs.Giving.{Giving, Piece, PieceSays}
use Rattle.http_bodies.specs.declared.body.fault.BodyFault.TheVariants.{Body, NoMemory}
use Rattle.http_framing.specs.declared.body.kind.BodyKind.{BodyKind}
use Rattle.http_framing.specs.declared.body.kind.BodyKind.TheVariants.{None as Bodyless, Length, Chunked, Raw}
use Rattle.http_types.specs.declared.error.PayloadError.{PayloadError}
use Rattle.http_types.specs.declared.requests.head.RequestHead.{RequestHead}
use Rattle.http_types.specs.declared.error.PayloadError.TheVariants as error
use Rattle.http_services.specs.Lent as lent
use Rattle.http_services.specs.Lent.{LentBound, lent_of}
use Rattle.http_services.specs.Queue as queues
use Rattle.http_services.specs.Queue.{Queue, new_queue, fed_data, fed_trailers, fed_end, fed_error}
use Rattle.http_services.specs.Serving.{Serving, ReadySays, CallSays, AnswerSays, TookNothing, Takes}
use Rattle.http_services.specs.Status.{status_of, Asked}
use Rattle.http_services.specs.declared.h1.send.PayloadStatus.TheVariants as status
use Rattle.h1_payload.specs.Rests.{SaysPulled}
use Rattle.h1_payload.specs.declared.pulled.BodyFault.{BodyFault}
use Rattle.h1_payload.specs.declared.pulled.BodyFault.TheVariants.{Corrupted, Incomplete}
use Rattle.h1_payload.specs.declared.pulled.Pulled.{Pulled}
use Rattle.h1_payload.specs.declared.pulled.Pulled.TheVariants as pieces
use Rattle.http_transport.specs.Peer.{PeerAddress}
use Rattle.http_transport.specs.Wiring.{ReadSays, WriteSays, ShutSays, moved}
use Rattle.h1_encoder.specs.Meaning.{answer_of, size_of}
use Rattle.model_h1.specs.Event as on
use Rattle.model_h1.specs.Handshake.{HandshakeError}
use Rattle.model_state.specs.Local.{closing_by}
use Rattle.h1_connection.specs.Heads.{SaysNext}
use Rattle.h1_connection.specs.EventMeaning.{setting_of, end_of}
use Rattle.h1_connection.specs.State.{Is}
use Rattle.h1_connection.specs.Ticks.{expiry_of}
use Rattle.h1_connection.specs.declared.connection.heads.NextHead.{NextHead}
use Rattle.h1_connection.specs.declared.connection.heads.NextHead.TheVariants as next_head
use Rattle.h1_connection.specs.declared.connection.ticks.Expiry.{Expiry}
use Rattle.h1_connection.specs.declared.connection.ticks.Expiry.TheVariants as expiries
use Rattle.h1_connection.specs.declared.event.End.{End}
use Rattle.h1_traced.specs.Traced.{TracedView, TracedSteps, TracedFails}
use Rattle.h1_dispatcher.specs.declared.dispatcher.Ending.{Ending}
use Rattle.h1_dispatcher.specs.declared.dispatcher.Ending.TheVariants.{Closed, Abandoned, Broken}
use Rattle.h1_dispatcher.specs.View.{View, Asking, Answer, Stage, free, waiting, calling, replying, sending, is_waiting, is_replying, awaits_body, with_drain, with_holds, with_release, with_leave, closes, allows, allows_next, has_write_room, asks_next, allows_answer, is_held, is_checked, may_refuse, may_accept, allows_chunk, buffered, room}

-- A step. A moment came; the drain came; the transport was given what waits to be written; it was asked for bytes, and these
-- came; it was shut down; the next head was asked for, for a request from this address; the connection closes, and told its end; the client of the request
-- that waits was told to go on; the service was asked whether it takes a call with a request, and takes none; it takes one,
-- and the call was begun; a call was polled; more of a request's body was asked for, and what came was fed to its queue; the
-- queue wants no more for now; the rest of a body was dropped; the answer was handed on; its body was polled, and what came
-- was handed on. Or memory ran out: for an event, for that of bytes which the transport had moved, for bytes that came of a
-- request's body, or for what came of an answer's. Or what no poll does: it was asked to drain; to hold requests back which
-- ask for an upgrade, or whose clients wait to be told to go on, or none of these; the upgrade of the request that is held back
-- was declined; its client may go on; or the request was turned away, with this answer; or its upgrade was to be accepted, with
-- this limit, and failed this check, so that it is held back still.
pub data Step : Type 0 where
  ticked : (moment : ℕ) → (expiry : Expiry) → Step
  drained : Step
  written : (answer : Poll (Result ℕ Failed)) → Step
  read : (came : List ℕ) → (answer : Poll (Result ℕ Failed)) → Step
  shut : (answer : Poll (Result Unit Failed)) → Step
  next : (peer : PeerAddress) → (head : NextHead) → Step
  closed : (end : End) → Step
  continued : Step
  ready : (request : Asking) → (answer : Poll (Result Unit Answer)) → Step
  called : (request : Asking) → Step
  answered : (answer : Poll (Result Answer Answer)) → Step
  pulled : (piece : Pulled) → Step
  paused : Step
  dropped : Step
  replied : (answer : Answer) → Step
  sent : (piece : Piece) → Step
  failed : (event : on.Event) → Step
  failed_write : (count : ℕ) → Step
  failed_read : (came : List ℕ) → (event : on.Event) → Step
  failed_fed : (bytes : List ℕ) → Step
  failed_sent : (piece : Piece) → Step
  asked_to_drain : Step
  asked_to_hold : (upgrades expects : Bool) → Step
  declined : Step
  let_on : Step
  turned_away : (request : Asking) → (answer : Answer) → Step
  refused : (limit : ℕ) → (error : HandshakeError) → Step

-- the event came to the connection, was noted, and had such an outcome; its settings stay, and so does whether somebody listens
pub record Goes (old : TracedView) (event : on.Event) (Says : on.Outcome → Type 0) (new : TracedView) : Type 0 where
  pub steps : TracedSteps old event Says new
  pub settings : new.state.settings ≡ old.state.settings
  pub listens : new.listens ≡ old.listens

-- how it has ended after a tick
abbrev pub ending_at : Expiry → Option Ending → Option Ending
ending_at expiries.None ending = ending
ending_at (expiries.Expired end) ending = ending
ending_at expiries.Abandoned ending = Some Abandoned

-- the connection after the transport took bytes: those were written
abbrev pub Wrote : TracedView → TracedView → Poll (Result ℕ Failed) → Type 0
Wrote old new (Ready (Ok n)) =
    (n ≤ length old.state.kept.buffered) × Goes old (on.write n) (Is (on.gave (take n old.state.kept.buffered))) new
Wrote old new (Ready (Err e)) = new ≡ old
Wrote old new Pending = new ≡ old

-- the connection after bytes came: they were read; of none the input's end
abbrev pub Took : TracedView → TracedView → List ℕ → Poll (Result ℕ Failed) → Type 0
Took old new came (Ready (Ok n)) =
    ((n ≡ 0) × Goes old on.eof (Is on.done) new) ⊎ ((0 < n) × ((count : ℕ) × Goes old (on.read came) (Is (on.took count)) new))
Took old new came (Ready (Err e)) = new ≡ old
Took old new came Pending = new ≡ old

-- the request of this head, from this address
abbrev pub asking_of : PeerAddress → RequestHead → Asking
asking_of peer head = record { head = record head { peer_addr = peer }; payload = None; own = tt }

-- the request that waits after the next head was asked for
abbrev pub request_at : PeerAddress → NextHead → Option Asking
request_at peer (next_head.Head item) = Some (asking_of peer item.head)
request_at peer (next_head.Fault fault) = None
request_at peer next_head.Pending = None
request_at peer (next_head.Closed end) = None

abbrev pub stage_at : Option Asking → Stage
stage_at None = free
stage_at (Some request) = waiting request

abbrev pub ending_told : NextHead → Option Ending
ending_told (next_head.Head item) = None
ending_told (next_head.Fault fault) = None
ending_told next_head.Pending = None
ending_told (next_head.Closed end) = Some (Closed end)

-- a service that takes no call with the request: it is asked again, or its error is the answer
abbrev pub TakesNone : Poll (Result Unit Answer) → Type 0
TakesNone (Ready (Ok x)) = ⊥
TakesNone (Ready (Err e)) = ⊤
TakesNone Pending = ⊤

abbrev pub stage_asked : Asking → Poll (Result Unit Answer) → Stage
stage_asked request (Ready (Ok x)) = waiting request
stage_asked request (Ready (Err e)) = replying e
stage_asked request Pending = waiting request

-- a call that answered isn't in progress any more, and its answer, also where it is an error, is to be handed on
abbrev pub stage_answered : Option lent.Took → Poll (Result Answer Answer) → Stage
stage_answered took (Ready (Ok x)) = replying x
stage_answered took (Ready (Err e)) = replying e
stage_answered took Pending = calling took

-- The call in progress was polled, and was lent the queue: it took only what waited there, if its taking is known, and
-- more waits then only where it was put back.
pub record IsAnswered (v : View) (answer : Poll (Result Answer Answer)) (w : View) : Type 0 where
  pub running : v.ending ≡ None
  pub allowed : allows_answer v ≡ true
  pub took : Option lent.Took
  pub calls : v.stage ≡ calling took
  pub says : AnswerSays v.service w.service answer
  pub more : Option lent.Took
  pub takes : Takes took more (lent_of v.queue) (lent_of w.queue)
  pub bound : LentBound (lent_of v.queue) (lent_of w.queue)
  pub same : w ≡ record v { service = w.service; queue = w.queue; stage = stage_answered more answer }

-- whether the request is held back that came with the next head, if it asks for an upgrade, or if its client waits to be told
-- to go on
abbrev pub holding_at : NextHead → View → Bool
holding_at (next_head.Head item) v = v.upgrades
holding_at (next_head.Fault fault) v = v.holding
holding_at next_head.Pending v = v.holding
holding_at (next_head.Closed end) v = v.holding

abbrev pub checking_at : NextHead → View → Bool
checking_at (next_head.Head item) v = v.expects
checking_at (next_head.Fault fault) v = v.checking
checking_at next_head.Pending v = v.checking
checking_at (next_head.Closed end) v = v.checking

-- the queue of a request's body is made anew with its head, and its end is fed where there is no body
abbrev pub is_bodyless : BodyKind → Bool
is_bodyless Bodyless = true
is_bodyless (Length n) = false
is_bodyless Chunked = false
is_bodyless Raw = false

abbrev pub queue_at : NextHead → Queue → Queue
queue_at (next_head.Head item) q = new_queue (is_bodyless item.body)
queue_at (next_head.Fault fault) q = q
queue_at next_head.Pending q = q
queue_at (next_head.Closed end) q = q

-- what is wrong with a request's body, as its queue tells it
abbrev pub error_of : BodyFault → PayloadError
error_of Corrupted = error.EncodingCorrupted
error_of Incomplete = error.Incomplete

-- the queue after what came of the body was fed
abbrev pub fed_with : Pulled → Queue → Queue
fed_with (pieces.Bytes bytes) q = fed_data bytes q
fed_with (pieces.Trailers trailers) q = fed_trailers trailers q
fed_with pieces.End q = fed_end q
fed_with (pieces.Broken fault) q = fed_error (error_of fault) q
fed_with pieces.Pending q = q

-- More of the open request's body is asked for only where its queue wants it: fewer than 32768 bytes wait there beyond those
-- that were put back, and the service hasn't dropped it. Nothing is asked for of a request that is held back.
pub record Wants (v : View) : Type 0 where
  pub running : v.ending ≡ None
  pub awaits : awaits_body v ≡ true
  pub unheld : is_held v ≡ false
  pub wanted : status_of v.queue ≡ status.Read
  pub low : queues.waiting v.queue.chunks < 32768 + v.queue.put_back

-- after an answer was handed on its body goes out, unless it has none
abbrev pub stage_replied : Giving → BodySize → Stage
stage_replied body NoBody = free
stage_replied body (Sized zero) = free
stage_replied body (Sized (suc n)) = sending body
stage_replied body Stream = sending body

-- what came of a body was handed on: a chunk, its end, or that it failed
abbrev pub Sent : TracedView → TracedView → Piece → Type 0
Sent old new (Ready (Some (Ok bytes))) = Goes old (on.chunk bytes) (Is on.done) new
Sent old new (Ready (Some (Err (Body n)))) = Goes old on.body_error (Is on.done) new
Sent old new (Ready (Some (Err NoMemory))) = ⊥
Sent old new (Ready None) = Goes old on.body_end (Is on.done) new
Sent old new Pending = new ≡ old

-- The body is done with at its end. One that failed stays as it is left, and is polled no more, as the connection closes.
abbrev pub stage_sent : Giving → Piece → Stage
stage_sent left (Ready None) = free
stage_sent left (Ready (Some piece)) = sending left
stage_sent left Pending = sending left

-- memory ran out for that, or in the body itself
abbrev pub Lacked : TracedView → TracedView → Piece → Type 0
Lacked old new (Ready (Some (Ok bytes))) = TracedFails old (on.chunk bytes) new
Lacked old new (Ready (Some (Err (Body n)))) = TracedFails old on.body_error new
Lacked old new (Ready (Some (Err NoMemory))) = new ≡ old
Lacked old new (Ready None) = TracedFails old on.body_end new
Lacked old new Pending = ⊥

-- The body that goes out was polled, where a piece of it may be handed in: this came, and that is left of it.
pub record Polls (v : View) (left : Giving) (piece : Piece) : Type 0 where
  pub running : v.ending ≡ None
  pub allowed : allows_chunk v ≡ true
  pub body : Giving
  pub goes_out : v.stage ≡ sending body
  pub says : PieceSays body left piece

-- the service said that it takes a call, and then this one was begun
pub record Begins (old new : Serving Asking Answer Answer) (request : Asking) : Type 0 where
  pub between : Serving Asking Answer Answer
  pub is_ready : ReadySays old between (Ready (Ok tt))
  pub begun : CallSays between new request

-- the client of the request that waits is told to go on, where there is room for the answer, and where it isn't held back
abbrev pub TellsOn : View → Type 0
TellsOn v = (v.ending ≡ None) × (is_waiting v.stage ≡ true) × (has_write_room v ≡ true) × (is_checked v ≡ false)

-- the service is asked, with the request that waits, where the open request may be answered, which it may not while the
-- connection closes, where there is room for the answer, where its client doesn't wait to be told to go on, and where it
-- isn't held back
abbrev pub IsAsked : View → Asking → Type 0
IsAsked v request =
    (v.ending ≡ None) × (v.stage ≡ waiting request) × (allows_answer v ≡ true) × (has_write_room v ≡ true)
    × (allows v on.send_continue ≡ false) × (is_held v ≡ false)

-- an answer is handed on once what is left of its request's body was dropped, wherever it may be dropped
abbrev pub MayReply : View → Type 0
MayReply v = (v.ending ≡ None) × (allows v on.drop_body ≡ false)

-- memory ran out for one of these, where it is allowed: the moment, the drain where it was asked for, the next head, or the
-- end of a connection that closes, that a client is to go on, more of a body where its queue wants it, the rest of a body where
-- the answer is there, or this answer
abbrev pub MayFail : View → on.Event → Type 0
MayFail v (on.tick moment) = allows v (on.tick moment) ≡ true
MayFail v on.drain = (v.draining ≡ true) × (allows v on.drain ≡ true)
MayFail v on.next = (v.ending ≡ None) × (allows_next v ≡ true) × ((closes v ≡ true) ⊎ (has_write_room v ≡ true))
MayFail v on.send_continue = TellsOn v × (allows v on.send_continue ≡ true)
MayFail v on.pull = Wants v
MayFail v on.drop_body = (v.ending ≡ None) × (is_replying v.stage ≡ true) × (allows v on.drop_body ≡ true)
MayFail v (on.answer head size) =
    MayReply v × (allows_answer v ≡ true)
    × ((answer : Answer) × (v.stage ≡ replying answer) × (head ≡ answer_of answer.head) × (size ≡ size_of answer.body.size))
MayFail v event = ⊥

-- so many bytes that came are told as bytes; none as the input's end
abbrev pub IsOfRead : ℕ → List ℕ → on.Event → Type 0
IsOfRead count came event = ((count ≡ 0) × (event ≡ on.eof)) ⊎ ((0 < count) × (event ≡ on.read came))

-- What a step takes, and what it leaves: all but what is named stays.
abbrev pub IsStep : View → Step → View → Type 0
IsStep v (ticked moment expiry) w =
    Goes v.traced (on.tick moment) (Is (expiry_of expiry)) w.traced
    × (w ≡ record v { traced = w.traced; ending = ending_at expiry v.ending })
IsStep v drained w = Goes v.traced on.drain (Is on.done) w.traced × (w ≡ record v { traced = w.traced })
IsStep v (written answer) w =
    (v.ending ≡ None) × (0 < length (buffered v)) × WriteSays v.transport w.transport answer (buffered v) × Wrote v.traced w.traced answer
    × (w ≡ record v { traced = w.traced; transport = w.transport })
IsStep v (read came answer) w =
    (v.ending ≡ None) × (allows v on.eof ≡ true)
    × ((buf : List ℕ) × (0 < length buf) × (length buf ≤ room v) × (came ≡ moved answer buf) × ReadSays v.transport w.transport answer buf)
    × Took v.traced w.traced came answer × (w ≡ record v { traced = w.traced; transport = w.transport })
IsStep v (shut answer) w =
    ((end : End) × (v.ending ≡ Some (Closed end))) × ShutSays v.transport w.transport answer × (w ≡ record v { transport = w.transport })
IsStep v (next peer head) w =
    (v.ending ≡ None) × (v.stage ≡ free) × (asks_next v ≡ true) × Goes v.traced on.next (SaysNext head) w.traced
    × (w ≡ record v { traced = w.traced; queue = queue_at head v.queue; stage = stage_at (request_at peer head); ending = ending_told head; holding = holding_at head v; checking = checking_at head v })
    × (peer ≡ v.peer)
IsStep v (closed end) w =
    (v.ending ≡ None) × (closing_by (setting_of v.traced.state.settings) v.traced.state.kept ≡ Some (end_of end))
    × (allows_next v ≡ true) × ((head : NextHead) × Goes v.traced on.next (SaysNext head) w.traced)
    × (w ≡ record v { traced = w.traced; ending = Some (Closed end) })
IsStep v continued w =
    TellsOn v × (allows v on.send_continue ≡ true) × Goes v.traced on.send_continue (Is on.done) w.traced
    × (w ≡ record v { traced = w.traced })
IsStep v (ready request answer) w =
    IsAsked v request × TakesNone answer × ReadySays v.service w.service answer
    × (w ≡ record v { service = w.service; stage = stage_asked request answer })
IsStep v (called request) w =
    IsAsked v request × Begins v.service w.service request
    × ((took : Option lent.Took) × TookNothing took × (w ≡ record v { service = w.service; stage = calling took }))
IsStep v (answered answer) w = IsAnswered v answer w
IsStep v (pulled piece) w =
    Wants v × Goes v.traced on.pull (SaysPulled piece) w.traced × (w ≡ record v { traced = w.traced; queue = fed_with piece v.queue })
IsStep v paused w =
    (v.ending ≡ None) × (awaits_body v ≡ true) × (status_of v.queue ≡ status.Pause) × Asked v.queue w.queue status.Pause
    × (w ≡ record v { queue = w.queue })
IsStep v dropped w =
    (v.ending ≡ None) × (is_replying v.stage ≡ true) × Goes v.traced on.drop_body (Is on.done) w.traced × (w ≡ record v { traced = w.traced })
IsStep v (replied answer) w =
    MayReply v × (v.stage ≡ replying answer) × Goes v.traced (on.answer (answer_of answer.head) (size_of answer.body.size)) (Is on.done) w.traced
    × (w ≡ record v { traced = w.traced; queue = new_queue true; stage = stage_replied answer.body answer.body.size })
IsStep v (sent piece) w =
    (left : Giving) × Polls v left piece × Sent v.traced w.traced piece × (w ≡ record v { traced = w.traced; stage = stage_sent left piece })
IsStep v (failed event) w = MayFail v event × TracedFails v.traced event w.traced × (w ≡ record v { traced = w.traced; ending = Some Broken })
IsStep v (failed_write count) w =
    (v.ending ≡ None) × (0 < length (buffered v)) × WriteSays {E = Failed} v.transport w.transport (Ready (Ok count)) (buffered v)
    × TracedFails v.traced (on.write count) w.traced
    × (w ≡ record v { traced = w.traced; transport = w.transport; ending = Some Broken })
    × ¬ (v.traced.listens ≡ false)
IsStep v (failed_read came event) w =
    (v.ending ≡ None) × (allows v on.eof ≡ true)
    × ((buf : List ℕ) × (count : ℕ) × (0 < length buf) × (length buf ≤ room v) × (came ≡ take count buf)
    × ReadSays {E = Failed} v.transport w.transport (Ready (Ok count)) buf × IsOfRead count came event)
    × TracedFails v.traced event w.traced
    × (w ≡ record v { traced = w.traced; transport = w.transport; ending = Some Broken })
IsStep v (failed_fed bytes) w =
    Wants v × Goes v.traced on.pull (SaysPulled (pieces.Bytes bytes)) w.traced × (w ≡ record v { traced = w.traced; ending = Some Broken })
IsStep v (failed_sent piece) w =
    (left : Giving) × Polls v left piece × Lacked v.traced w.traced piece
    × (w ≡ record v { traced = w.traced; stage = sending left; ending = Some Broken })
IsStep v asked_to_drain w = w ≡ with_drain v
IsStep v (asked_to_hold upgrades expects) w = w ≡ with_holds upgrades expects v
IsStep v declined w = w ≡ with_release v
IsStep v let_on w = w ≡ with_leave v
IsStep v (turned_away request answer) w =
    (may_refuse v ≡ true) × (v.stage ≡ waiting request) × (w ≡ record v { stage = replying answer })
IsStep v (refused limit error) w =
    (may_accept v limit ≡ true) × Goes v.traced (on.accept limit) (Is (on.refused error)) w.traced
    × (w ≡ record v { traced = w.traced })

-- one step after another
abbrev pub IsRun : View → List Step → View → Type 0
IsRun v [] w = w ≡ v
IsRun v (step ∷ steps) w = (u : View) × IsStep v step u × IsRun u steps w
