-- What a dispatcher keeps, and what is known of what it stands on.
use Rattle.std.specs.Prelude.{◌≡◌, ◌<◌, ◌-◌, ◌⊎◌, ◌&&◌, ◌||◌, not, ℕ, Bool, true, false, Option, Some, None, is_some, option_map, List, [], map, length, ⊤, Result, Ok, Err}
use Rattle.http_config.specs.Config.{Settings}
use Rattle.http_types.specs.Request.{RequestParts}
use Rattle.http_types.specs.Response.{FullResponse}
use Rattle.http_bodies.specs.Giving.{Giving}
use Rattle.http_services.specs.Lent.{Took}
use Rattle.http_services.specs.Queue.{Queue, new_queue}
use Rattle.http_services.specs.Serving.{Serving, Calling}
use Rattle.http_transport.specs.Peer.{PeerAddress}
use Rattle.http_transport.specs.Wiring.{Wiring}
use Rattle.model_state.specs.Local.{closing_by, allowed_by, has_room}
use Rattle.model_h1.specs.Answer.{size_none}
use Rattle.model_h1.specs.Event as on
use Rattle.h1_connection.specs.Given.{next_allowed}
use Rattle.h1_connection.specs.EventMeaning.{setting_of}
use Rattle.h1_connection.specs.State.{fresh_state}
use Rattle.h1_connection.specs.Steps.{Pair}
use Rattle.h1_traced.specs.Traced.{TracedView, traced_of}
use Rattle.h1_dispatcher.specs.declared.dispatcher.Dispatcher.{Dispatcher}
use Rattle.h1_dispatcher.specs.declared.dispatcher.Ending.{Ending}
use Rattle.h1_dispatcher.specs.declared.dispatcher.Ending.TheVariants.{Closed, Abandoned, Broken}
use Rattle.h1_dispatcher.specs.declared.dispatcher.Work.{Work}
use Rattle.h1_dispatcher.specs.declared.dispatcher.Work.TheVariants.{Free, Waiting, Calling as Called, Replying, Sending}

-- what a service is asked, and what it answers: a response, also where it refuses
abbrev pub Asking : Type 0
Asking = RequestParts Unit Unit

abbrev pub Answer : Type 0
Answer = FullResponse Giving

-- a response by its head and by what its body gives, an answer that may be an error, and the service by both
abbrev pub told_response : {B : Type 0} → (B → Giving) → FullResponse B → Answer
told_response gives r = record { head = r.head; body = gives r.body }

abbrev pub told_result : {B : Type 0} → (B → Giving) → Result (FullResponse B) (FullResponse B) → Result Answer Answer
told_result gives (Ok r) = Ok (told_response gives r)
told_result gives (Err r) = Err (told_response gives r)

abbrev pub told_service : {B : Type 0} → (B → Giving) → Serving Asking (FullResponse B) (FullResponse B) → Serving Asking Answer Answer
told_service gives s =
    record {
      called = s.called;
      answered = option_map (map (told_result gives)) s.answered;
      faults = s.faults;
      ready_waits = s.ready_waits;
      call_waits = s.call_waits;
    }

-- How far the last request is: nothing is left to do for it, or none has come; the service is to be called with it; its
-- call is in progress, which took this of the queue of its body, if that is known; its answer wasn't handed on yet; the
-- answer's body goes out, of which this is left. Only one of these holds, so that no answer becomes that of another request.
pub data Stage : Type 0 where
  free : Stage
  waiting : (request : Asking) → Stage
  calling : (took : Option Took) → Stage
  replying : (answer : Answer) → Stage
  sending : (body : Giving) → Stage

-- the service has a request to answer, or its answer or the body of that is to be handed on
abbrev pub is_busy : Stage → Bool
is_busy free = false
is_busy (waiting request) = true
is_busy (calling took) = true
is_busy (replying answer) = true
is_busy (sending body) = true

-- the service has the request, or is to get it, and hasn't answered it
abbrev pub is_awaiting : Stage → Bool
is_awaiting free = false
is_awaiting (waiting request) = true
is_awaiting (calling took) = true
is_awaiting (replying answer) = false
is_awaiting (sending body) = false

-- the request has no answer at the connection yet
abbrev pub is_unanswered : Stage → Bool
is_unanswered free = false
is_unanswered (waiting request) = true
is_unanswered (calling took) = true
is_unanswered (replying answer) = true
is_unanswered (sending body) = false

-- the service has the request, and its answer wasn't handed on
abbrev pub is_asked : Stage → Bool
is_asked free = false
is_asked (waiting request) = false
is_asked (calling took) = true
is_asked (replying answer) = true
is_asked (sending body) = false

abbrev pub is_waiting : Stage → Bool
is_waiting (waiting request) = true
is_waiting stage = false

abbrev pub is_calling : Stage → Bool
is_calling (calling took) = true
is_calling stage = false

abbrev pub is_replying : Stage → Bool
is_replying (replying answer) = true
is_replying stage = false

abbrev pub is_sending : Stage → Bool
is_sending (sending body) = true
is_sending stage = false

abbrev pub stage_of : {C B : Type 0} → (C → Calling Asking) → (B → Giving) → Work C B → Stage
stage_of calls gives Free = free
stage_of calls gives (Waiting request) = waiting request
stage_of calls gives (Called call) = calling (calls call).took
stage_of calls gives (Replying response) = replying (told_response gives response)
stage_of calls gives (Sending body) = sending (gives body)

-- The connection with the steps that were noted; the transport; who is on its other side; the service; the queue of the last
-- request's body; how far that request is; how the connection has ended; that it is to be drained; that requests which ask for an upgrade are to be held
-- back, and those whose clients wait to be told to go on; and that the last request is, if it asks for the one or waits for the
-- other.
pub record View : Type 0 where
  pub traced : TracedView
  pub transport : Wiring
  pub peer : PeerAddress
  pub service : Serving Asking Answer Answer
  pub queue : Queue
  pub stage : Stage
  pub ending : Option Ending
  pub draining : Bool
  pub upgrades : Bool
  pub expects : Bool
  pub holding : Bool
  pub checking : Bool

abbrev pub view_of : {T S C L B : Type 0} → (T → Wiring) → (S → Serving Asking (FullResponse B) (FullResponse B)) → (C → Calling Asking) → (B → Giving) → (L → Option (List Pair)) → (L → Bool) → Dispatcher T S C L B → View
view_of wiring served calls gives noted listening d =
    record {
      traced = traced_of noted listening d.traced;
      transport = wiring d.transport;
      peer = d.peer;
      service = told_service gives (served d.service);
      queue = d.queue;
      stage = stage_of calls gives d.work;
      ending = d.ending;
      draining = d.is_draining;
      upgrades = d.upgrades;
      expects = d.expects;
      holding = d.is_holding;
      checking = d.is_checking;
    }

-- a new dispatcher over this transport and this service, with this peer, whose recorder has noted this, and listens or doesn't
abbrev pub view_begun : Wiring → Serving Asking Answer Answer → Settings → PeerAddress → Option (List Pair) → Bool → View
view_begun transport service settings peer noted listens =
    record {
      traced = record { state = fresh_state settings; noted = noted; listens = listens };
      transport = transport;
      peer = peer;
      service = service;
      queue = new_queue true;
      stage = free;
      ending = None;
      draining = false;
      upgrades = false;
      expects = false;
      holding = false;
      checking = false;
    }

-- the same, to be drained
abbrev pub with_drain : View → View
with_drain v = record v { draining = true }

-- the same, and the next requests that ask for an upgrade are to be held back, or aren't; and those whose clients wait to be
-- told to go on
abbrev pub with_holds : Bool → Bool → View → View
with_holds upgrades expects v = record v { upgrades = upgrades; expects = expects }

-- the same, and the last request isn't held back for its upgrade
abbrev pub with_release : View → View
with_release v = record v { holding = false }

-- nor for its client, which may go on
abbrev pub with_leave : View → View
with_leave v = record v { checking = false }

-- the transport, the service and the recorder
abbrev pub parts_of : {T S C L B : Type 0} → Dispatcher T S C L B → T × S × L
parts_of d = (d.transport, d.service, d.traced.recorder)

-- memory ran out
abbrev pub is_broken : Option Ending → Bool
is_broken None = false
is_broken (Some (Closed end)) = false
is_broken (Some Abandoned) = false
is_broken (Some Broken) = true

-- a call in progress may be polled
abbrev pub IsCallOpen : {C B : Type 0} → (C → Calling Asking) → Work C B → Type 0
IsCallOpen called Free = ⊤
IsCallOpen called (Waiting request) = ⊤
IsCallOpen called (Called call) = (called call).is_open ≡ true
IsCallOpen called (Replying response) = ⊤
IsCallOpen called (Sending body) = ⊤

abbrev pub MayBePolled : {T S C L B : Type 0} → (C → Calling Asking) → Dispatcher T S C L B → Type 0
MayBePolled called d = IsCallOpen called d.work

-- ---- of the connection

-- it closes
abbrev pub closes : View → Bool
closes v = is_some (closing_by (setting_of v.traced.state.settings) v.traced.state.kept)

-- the event may come
abbrev pub allows : View → on.Event → Bool
allows v event = allowed_by (setting_of v.traced.state.settings) v.traced.state.kept event

-- the next head may be asked for; where it closes, only once all is written
abbrev pub allows_next : View → Bool
allows_next v = next_allowed (setting_of v.traced.state.settings) v.traced.state.kept

-- there is room for an answer: fewer bytes wait to be written than the settings' write buffer size
abbrev pub has_write_room : View → Bool
has_write_room v = has_room (setting_of v.traced.state.settings) v.traced.state.kept

-- the next head is asked for where that is allowed, and where there is room for its answer
abbrev pub asks_next : View → Bool
asks_next v = allows_next v && has_write_room v

-- the open request may be answered, which doesn't depend on the answer
abbrev pub any_answer : on.Event
any_answer =
    on.answer
    (record { status = 200; reason = None; closes = false; keeps_alive = false; upgrades = false; no_chunking = false; in_camel_case = false; headers = [] })
    size_none

abbrev pub allows_answer : View → Bool
allows_answer v = allows v any_answer

-- the client of the request that waits is held back: it waits to be told to go on, and who polls says whether it is
abbrev pub is_checked : View → Bool
is_checked v = is_waiting v.stage && (v.checking && allows v on.send_continue)

-- the request that waits is held back, for its client or since it asks for an upgrade: the service isn't asked with it
abbrev pub is_held : View → Bool
is_held v = is_waiting v.stage && ((v.checking && allows v on.send_continue) || (v.holding && allows v (on.accept 0)))

-- the request that is held back may be turned away with an answer: the connection hasn't ended, and there is room for one
abbrev pub may_refuse : View → Bool
may_refuse v = not (is_some v.ending) && (is_held v && (allows v any_answer && has_room (setting_of v.traced.state.settings) v.traced.state.kept))

-- and so is its client, which may go on
abbrev pub is_expecting : View → Bool
is_expecting v = is_checked v && may_refuse v

-- the request may be accepted, or declined: the connection hasn't ended, and its client doesn't wait to be told to go on
abbrev pub is_offered : View → Bool
is_offered v = not (is_some v.ending) && ((is_waiting v.stage && (v.holding && allows v (on.accept 0))) && not (allows v on.send_continue))

-- it may be accepted with this limit
abbrev pub may_accept : View → ℕ → Bool
may_accept v limit = is_offered v && allows v (on.accept limit)

-- more of the open request's body may come: the request waits for its answer, and its body isn't done with
abbrev pub awaits_body : View → Bool
awaits_body v = is_awaiting v.stage && (allows_answer v && allows v on.drop_body)

-- a piece of the answer's body may be handed in, which doesn't depend on it: there is room for one
abbrev pub allows_chunk : View → Bool
allows_chunk v = allows v (on.chunk [])

-- the bytes that wait to be written
abbrev pub buffered : View → List ℕ
buffered v = v.traced.state.kept.buffered

-- how many more bytes may be held
abbrev pub room : View → ℕ
room v = v.traced.state.settings.h1_hold_size - length v.traced.state.kept.unread

-- no byte of a head is there, and some may be held
abbrev pub HasNoByte : View → Type 0
HasNoByte v = (length v.traced.state.kept.unread ≡ 0) × (0 < room v)

-- nothing waits to be written, or nothing may be written any more
abbrev pub HasNoOutput : View → Type 0
HasNoOutput v = (length (buffered v) ≡ 0) ⊎ (allows v (on.write 0) ≡ false)

-- no byte may be read, or none held
abbrev pub HasNoInput : View → Type 0
HasNoInput v = (allows v on.eof ≡ false) ⊎ (room v ≡ 0)
