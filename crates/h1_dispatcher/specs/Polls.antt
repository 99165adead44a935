-- What a poll of a dispatcher answers.
use Rattle.std.specs.Prelude.{◌≡◌, ◌≤◌, ◌<◌, ◌+◌, ◌*◌, ◌⊎◌, ◌++◌, ◌∷◌, ℕ, Bool, true, false, Some, None, List, [], length, ⊤, Result, Ok, Err}
use Rattle.std.specs.List.{AllByRecursion}
use Rattle.futures.specs.declared.task.Poll.{Poll}
use Rattle.futures.specs.declared.task.Poll.TheVariants.{Ready, Pending}
use Rattle.futures.specs.declared.task.context.Context.{Context}
use Rattle.http_config.specs.declared.Failed.{Failed}
use Rattle.http_types.specs.declared.error.DispatchError.{DispatchError}
use Rattle.http_types.specs.declared.error.DispatchError.TheVariants as error
use Rattle.http_types.specs.declared.error.ParseError.TheVariants as parse
use Rattle.http_bodies.specs.Giving.{Piece}
use Rattle.http_services.specs.Status.{status_of}
use Rattle.http_services.specs.declared.h1.send.PayloadStatus.TheVariants as status
use Rattle.h1_payload.specs.declared.pulled.Pulled.{Pulled}
use Rattle.h1_payload.specs.declared.pulled.Pulled.TheVariants as pieces
use Rattle.model_h1.specs.Event as on
use Rattle.model_h1.specs.Sums as sums
use Rattle.h1_traced.specs.Traced.{TracedStands}
use Rattle.h1_connection.specs.declared.connection.heads.NextHead.{NextHead}
use Rattle.h1_connection.specs.declared.connection.heads.NextHead.TheVariants as next_head
use Rattle.h1_connection.specs.declared.connection.ticks.Expiry.{Expiry}
use Rattle.h1_connection.specs.declared.event.End.{End}
use Rattle.h1_connection.specs.declared.event.End.TheVariants as ends
use Rattle.h1_dispatcher.specs.declared.dispatcher.Ending.TheVariants.{Closed, Abandoned, Broken}
use Rattle.h1_dispatcher.specs.declared.dispatcher.DispatcherTurn.{DispatcherTurn}
use Rattle.h1_dispatcher.specs.declared.dispatcher.DispatcherTurn.TheVariants.{Counted, Idle, Over}
use Rattle.h1_dispatcher.specs.View.{View, Asking, Stage, free, waiting, calling, replying, sending, is_sending, is_broken, closes, allows, allows_next, has_write_room, asks_next, allows_answer, is_held, awaits_body, allows_chunk, HasNoByte, HasNoOutput, HasNoInput}
use Rattle.h1_dispatcher.specs.Steps.{Step, IsStep, IsRun, ticked, drained, written, read, shut, next, closed, continued, ready, called, answered, pulled, paused, dropped, replied, sent, failed, failed_write, failed_read, failed_fed, failed_sent, asked_to_drain, asked_to_hold, declined, let_on, turned_away, refused}
use Rattle.h1_dispatcher.specs.Replies.{HasNoReply, HandsOn}

-- ---- steps

-- a call of the transport that didn't fail
abbrev pub HasNotFailed : Poll (Result ℕ Failed) → Type 0
HasNotFailed (Ready (Ok n)) = ⊤
HasNotFailed (Ready (Err e)) = ⊥
HasNotFailed Pending = ⊤

abbrev pub IsPending : {A : Type 0} → Poll A → Type 0
IsPending (Ready x) = ⊥
IsPending Pending = ⊤

-- A turn goes on after this step. A poll ends with a failed call of the transport, the transport shut down, or where memory ran out;
-- a moment and a drain come before its turns alone.
abbrev pub Continues : Step → Type 0
Continues (ticked moment expiry) = ⊥
Continues drained = ⊥
Continues (written answer) = HasNotFailed answer
Continues (read came answer) = HasNotFailed answer
Continues (shut answer) = IsPending answer
Continues (next peer head) = ⊤
Continues (closed end) = ⊤
Continues continued = ⊤
Continues (ready request answer) = ⊤
Continues (called request) = ⊤
Continues (answered answer) = ⊤
Continues (pulled piece) = ⊤
Continues paused = ⊤
Continues dropped = ⊤
Continues (replied answer) = ⊤
Continues (sent piece) = ⊤
Continues (failed event) = ⊥
Continues (failed_write count) = ⊥
Continues (failed_read came event) = ⊥
Continues (failed_fed bytes) = ⊥
Continues (failed_sent piece) = ⊥
Continues asked_to_drain = ⊥
Continues (asked_to_hold upgrades expects) = ⊥
Continues declined = ⊥
Continues let_on = ⊥
Continues (turned_away request answer) = ⊥
Continues (refused limit error) = ⊥

-- it goes on after each of these steps
abbrev pub AllContinue : List Step → Type 0
AllContinue steps = AllByRecursion Continues steps

-- this is the last one, and it goes on after each before it
abbrev pub EndsWith : List Step → Step → Type 0
EndsWith steps last = (before : List Step) × (steps ≡ before ++ last ∷ []) × AllContinue before

-- ---- progress: an event that was noted, and whose outcome isn't that nothing came

abbrev pub moves : Poll (Result ℕ Failed) → ℕ
moves (Ready x) = 1
moves Pending = 0

abbrev pub comes : NextHead → ℕ
comes (next_head.Head item) = 1
comes (next_head.Fault fault) = 1
comes next_head.Pending = 0
comes (next_head.Closed end) = 1

abbrev pub comes_of : Piece → ℕ
comes_of (Ready x) = 1
comes_of Pending = 0

abbrev pub brings : Pulled → ℕ
brings (pieces.Bytes bytes) = 1
brings (pieces.Trailers trailers) = 1
brings pieces.End = 1
brings (pieces.Broken fault) = 1
brings pieces.Pending = 0

abbrev pub counts : Step → ℕ
counts (written answer) = moves answer
counts (read came answer) = moves answer
counts (next peer head) = comes head
counts (closed end) = 1
counts continued = 1
counts (pulled piece) = brings piece
counts dropped = 1
counts (replied answer) = 1
counts (sent piece) = comes_of piece
counts step = 0

abbrev pub progress : List Step → ℕ
progress [] = 0
progress (step ∷ steps) = counts step + progress steps

-- ---- why it ends

-- what is answered where the connection closed by this end
abbrev pub result_of : End → Result Unit DispatchError
result_of ends.Malformed = Err (error.Parse parse.Header)
result_of ends.TooLarge = Err (error.Parse parse.TooLarge)
result_of ends.SlowRequestTimeout = Err error.SlowRequestTimeout
result_of ends.Body = Err error.Body
result_of ends.BodyShort = Err error.Body
result_of ends.KeepAliveExpired = Ok tt
result_of ends.Protocol = Ok tt
result_of ends.Asked = Ok tt
result_of ends.BrokenBody = Ok tt
result_of ends.UnreadBody = Ok tt
result_of ends.Drained = Ok tt
result_of ends.HalfClosed = Ok tt
result_of ends.InputEnded = Ok tt

-- the connection told an end that means this result, and the transport was shut down
abbrev pub IsShut : View → List Step → Result Unit DispatchError → Type 0
IsShut w steps result = EndsWith steps (shut (Ready (Ok tt))) × ((end : End) × (w.ending ≡ Some (Closed end)) × (result_of end ≡ result))

-- a call of the transport failed
abbrev pub IsIo : List Step → Type 0
IsIo steps =
    (failure : Failed) × (EndsWith steps (written (Ready (Err failure)))
    ⊎ (((came : List ℕ) × EndsWith steps (read came (Ready (Err failure)))) ⊎ EndsWith steps (shut (Ready (Err failure)))))

-- a turn tells neither a moment nor the drain
abbrev pub IsOfTurn : on.Event → Type 0
IsOfTurn (on.tick moment) = ⊥
IsOfTurn on.drain = ⊥
IsOfTurn event = ⊤

-- memory ran out in the last step
abbrev pub IsOutOfMemory : List Step → Type 0
IsOutOfMemory steps =
    ((event : on.Event) × IsOfTurn event × EndsWith steps (failed event))
    ⊎ (((count : ℕ) × EndsWith steps (failed_write count))
    ⊎ (((came : List ℕ) × (event : on.Event) × EndsWith steps (failed_read came event))
    ⊎ (((bytes : List ℕ) × EndsWith steps (failed_fed bytes)) ⊎ ((piece : Piece) × EndsWith steps (failed_sent piece)))))

-- Why a poll ended: each error has its cause.
abbrev pub Ended : View → List Step → Result Unit DispatchError → Type 0
Ended w steps (Ok x) = IsShut w steps (Ok tt)
Ended w steps (Err error.Io) = IsIo steps
Ended w steps (Err error.NoMemory) = (w.ending ≡ Some Broken) × (IsOutOfMemory steps ⊎ AllContinue steps)
Ended w steps (Err error.DisconnectTimeout) = AllContinue steps × (w.ending ≡ Some Abandoned)
Ended w steps (Err error.Body) = IsShut w steps (Err error.Body)
Ended w steps (Err error.SlowRequestTimeout) = IsShut w steps (Err error.SlowRequestTimeout)
Ended w steps (Err (error.Parse e)) = IsShut w steps (Err (error.Parse e))
Ended w steps (Err error.Service) = ⊥
Ended w steps (Err error.Upgrade) = ⊥
Ended w steps (Err error.H2) = ⊥
Ended w steps (Err error.HandlerDroppedPayload) = ⊥
Ended w steps (Err error.InternalError) = ⊥

-- ---- waiting

-- a request waits for the service: that was pending, or the call of it, or there is no room for its answer until more is
-- written, or the request is held back
abbrev pub Asks : Bool → Bool → Asking → List Step → Type 0
Asks true room request served = served ≡ []
Asks false true request served = (served ≡ ready request Pending ∷ []) ⊎ (served ≡ called request ∷ answered Pending ∷ [])
Asks false false request served = served ≡ []

-- the open request may be answered: it waits, or its call was pending
abbrev pub Awaits : Stage → Bool → Bool → List Step → Type 0
Awaits free held room served = served ≡ []
Awaits (waiting request) held room served = Asks held room request served
Awaits (calling took) held room served = served ≡ answered Pending ∷ []
Awaits (replying answer) held room served = ⊥
Awaits (sending body) held room served = ⊥

-- no request may be answered: no head was there, or no byte of one is, or none may be asked for, or there is no room for its
-- answer until more is written
abbrev pub Looks : View → Bool → Stage → List Step → Type 0
Looks v true free served = (served ≡ next v.peer next_head.Pending ∷ []) ⊎ ((served ≡ []) × HasNoByte v)
Looks v true (waiting request) served = served ≡ []
Looks v true (calling took) served = served ≡ []
Looks v true (replying answer) served = served ≡ []
Looks v true (sending body) served = served ≡ []
Looks v false stage served = served ≡ []

-- the answer's body goes out: it was pending, or there is no room for a piece of it until more is written
abbrev pub Sends : Bool → List Step → Type 0
Sends true served = served ≡ sent Pending ∷ []
Sends false served = served ≡ []

-- the body, or else the service and the connection wait, from this view on
abbrev pub Serves : View → Bool → Bool → List Step → Type 0
Serves v true allows served = Sends (allows_chunk v) served
Serves v false true served = Awaits v.stage (is_held v) (has_write_room v) served
Serves v false false served = Looks v (asks_next v) v.stage served

-- then more of the open request's body: nothing more was there, or its queue wants no more for now and is waited for; or its
-- body is done with, or the service has dropped it, or the request is held back
abbrev pub Feeds : View → List Step → Type 0
Feeds u feeding =
    (feeding ≡ pulled pieces.Pending ∷ [])
    ⊎ ((feeding ≡ paused ∷ []) ⊎ ((feeding ≡ []) × ((awaits_body u ≡ false) ⊎ ((status_of u.queue ≡ status.Dropped) ⊎ (is_held u ≡ true)))))

-- the transport had no bytes, or none may be read
abbrev pub ReadsNothing : View → List Step → Type 0
ReadsNothing x reading =
    (reading ≡ read [] Pending ∷ []) ⊎ ((reading ≡ []) × HasNoInput x)

-- Nothing more can be done for the requests and the input of a connection that doesn't close. What was tried was pending,
-- in these steps, and nothing else is possible.
pub record IsIdle (v w : View) : Type 0 where
  pub served : List Step
  pub between : View
  pub serves : IsRun v served between
  pub feeding : List Step
  pub fed : View
  pub feeds : IsRun between feeding fed
  pub reading : List Step
  pub reads : IsRun fed reading w
  pub waits : Serves v (is_sending v.stage) (allows_answer v) served
  pub no_body : Feeds between feeding
  pub no_input : ReadsNothing fed reading

-- The connection closes, and its end may not be told: what is left waits to be written.
pub record IsHeld (v w : View) : Type 0 where
  pub stays : w ≡ v
  pub closing : closes v ≡ true
  pub next : allows_next v ≡ false

-- the transport took none of what waits to be written, or nothing waits that may be
abbrev pub Writes : View → List Step → Type 0
Writes v writing = (writing ≡ written Pending ∷ []) ⊎ ((writing ≡ []) × HasNoOutput v)

-- Nothing more can be done while the connection goes on: first its writing waits, and then all else.
pub record IsStuckRunning (v w : View) : Type 0 where
  pub running : v.ending ≡ None
  pub writing : List Step
  pub after : View
  pub writes : IsRun v writing after
  pub no_output : Writes v writing
  pub waits : IsHeld after w ⊎ ((closes after ≡ false) × IsIdle after w)

-- the connection has ended, and the transport isn't shut down yet
pub record IsStuckShutting (v w : View) : Type 0 where
  pub end : End
  pub ended : v.ending ≡ Some (Closed end)
  pub shuts : IsRun v (shut Pending ∷ []) w

abbrev pub IsStuck : View → View → Type 0
IsStuck v w = IsStuckRunning v w ⊎ IsStuckShutting v w

-- ---- turns

-- After some steps, of which so many are progress, and which are no more than that, it goes on. No answer of the service is
-- left at hand, unless one was before.
pub record GoesOn (v w : View) (n most : ℕ) : Type 0 where
  pub steps : List Step
  pub run : IsRun v steps w
  pub go_on : AllContinue steps
  pub enough : n ≤ progress steps
  pub few : length steps ≤ most
  pub handed : HandsOn v w

-- after some steps, no more than that, it ends; an answer of the service is left at hand only where memory ran out
pub record Ends (v w : View) (most : ℕ) (result : Result Unit DispatchError) : Type 0 where
  pub steps : List Step
  pub run : IsRun v steps w
  pub ended : Ended w steps result
  pub few : length steps ≤ most
  pub handed : (trace : List sums.Step) → TracedStands v.traced trace → HasNoReply v → (result ≡ Err error.NoMemory) ⊎ HasNoReply w

-- the transport was given what waits to be written in the first of these steps, or nothing waits that may be written
abbrev pub WritesFirst : View → List Step → Type 0
WritesFirst v steps = HasNoOutput v ⊎ ((answer : Poll (Result ℕ Failed)) × (rest : List Step) × (steps ≡ written answer ∷ rest))

-- a turn, of at most five steps: the transport took nothing, a call was begun and answered, a body dropped, the answer handed on;
-- or the call was pending, and so was the body or its queue, and the input was read
abbrev pub TurnSays : View → View → DispatcherTurn → Type 0
TurnSays v w Counted = (goes : GoesOn v w 1 5) × WritesFirst v goes.steps
TurnSays v w Idle = IsStuck v w
TurnSays v w (Over result) = Ends v w 5 result

-- a turn after the writing, of at most so many steps, where the connection doesn't close
abbrev pub ServeSays : ℕ → View → View → DispatcherTurn → Type 0
ServeSays most v w Counted = GoesOn v w 1 most
ServeSays most v w Idle = IsIdle v w
ServeSays most v w (Over result) = Ends v w most result

-- and where it may
abbrev pub AfterSays : View → View → DispatcherTurn → Type 0
AfterSays v w Counted = GoesOn v w 1 4
AfterSays v w Idle = IsHeld v w ⊎ ((closes v ≡ false) × IsIdle v w)
AfterSays v w (Over result) = Ends v w 4 result

-- the last step of a connection that closes
abbrev pub EndSays : ℕ → View → View → DispatcherTurn → Type 0
EndSays most v w Counted = GoesOn v w 1 most
EndSays most v w Idle = ⊥
EndSays most v w (Over result) = Ends v w most result

-- the same, of a step that may be left to the next turn
abbrev pub StepSays : View → View → DispatcherTurn → Type 0
StepSays v w Counted = GoesOn v w 0 1
StepSays v w Idle = ⊥
StepSays v w (Over result) = Ends v w 1 result

-- the answer that was at hand was handed on, or memory ran out
abbrev pub Handed : View → DispatcherTurn → Type 0
Handed w Counted = HasNoReply w
Handed w Idle = ⊥
Handed w (Over result) = result ≡ Err error.NoMemory

-- a turn that reads
pub record IsReadIdle (v w : View) : Type 0 where
  pub reading : List Step
  pub reads : IsRun v reading w
  pub no_input : ReadsNothing v reading

abbrev pub ReadingSays : View → View → DispatcherTurn → Type 0
ReadingSays v w Counted = GoesOn v w 1 1
ReadingSays v w Idle = IsReadIdle v w
ReadingSays v w (Over result) = Ends v w 1 result

-- a turn that feeds the queue of a request's body, or else reads
pub record IsFeedIdle (v w : View) : Type 0 where
  pub feeding : List Step
  pub fed : View
  pub feeds : IsRun v feeding fed
  pub reading : List Step
  pub reads : IsRun fed reading w
  pub no_body : Feeds v feeding
  pub no_input : ReadsNothing fed reading

abbrev pub FeedingSays : View → View → DispatcherTurn → Type 0
FeedingSays v w Counted = GoesOn v w 1 2
FeedingSays v w Idle = IsFeedIdle v w
FeedingSays v w (Over result) = Ends v w 2 result

-- this holds where nothing more can be done
abbrev pub OnIdle : DispatcherTurn → Type 0 → Type 0
OnIdle Counted P = ⊤
OnIdle Idle P = P
OnIdle (Over result) P = ⊤

-- ---- a poll

-- the moment came, where it was allowed
abbrev pub Ticks : View → ℕ → View → Type 0
Ticks v moment w =
    ((allows v (on.tick moment) ≡ false) × (w ≡ v))
    ⊎ ((allows v (on.tick moment) ≡ true) × ((expiry : Expiry) × IsStep v (ticked moment expiry) w))

-- the drain came, where it was asked for and was allowed
abbrev pub Drains : View → View → Type 0
Drains v w =
    (((v.draining ≡ false) ⊎ (allows v on.drain ≡ false)) × (w ≡ v))
    ⊎ ((v.draining ≡ true) × (allows v on.drain ≡ true) × IsStep v drained w)

-- both, in this order
pub record IsBegun (v : View) (moment : ℕ) (w : View) : Type 0 where
  pub between : View
  pub ticks : Ticks v moment between
  pub drains : Drains between w

-- memory ran out in one of them
abbrev pub BeginFails : View → ℕ → View → Type 0
BeginFails v moment w =
    IsStep v (failed (on.tick moment)) w ⊎ ((between : View) × Ticks v moment between × IsStep between (failed on.drain) w)

abbrev pub TickSays : {A E : Type 0} → View → ℕ → View → Result A E → Type 0
TickSays v moment w (Ok x) = Ticks v moment w
TickSays v moment w (Err e) = IsStep v (failed (on.tick moment)) w

abbrev pub DrainSays : {A E : Type 0} → View → View → Result A E → Type 0
DrainSays v w (Ok x) = Drains v w
DrainSays v w (Err e) = IsStep v (failed on.drain) w

abbrev pub BeginSays : {A E : Type 0} → View → ℕ → View → Result A E → Type 0
BeginSays v moment w (Ok x) = IsBegun v moment w
BeginSays v moment w (Err e) = BeginFails v moment w

-- The turns of a poll are at most 64, of at most five steps each. They are pending where nothing more can be done, or where
-- 64 steps were noted, and then the task is woken; what waited to be written was given to the transport first.
pub record IsSpent (v w : View) (cx : Context) : Type 0 where
  pub goes : GoesOn v w 64 (5 * 64)
  pub first : WritesFirst v goes.steps
  pub woken : cx.is_woken ≡ true

pub record Waits (v w : View) : Type 0 where
  pub turns : ℕ
  pub fewer : turns < 64
  pub last : View
  pub goes : GoesOn v last turns (5 * turns)
  pub stuck : IsStuck last w

abbrev pub TurnsSay : View → View → Context → Poll (Result Unit DispatchError) → Type 0
TurnsSay v w cx (Ready result) = Ends v w (5 * 64) result
TurnsSay v w cx Pending = Waits v w ⊎ IsSpent v w cx

-- memory ran out before the turns, or they came
abbrev pub PollRuns : View → View → Context → ℕ → Poll (Result Unit DispatchError) → Type 0
PollRuns v w cx moment result =
    ((result ≡ Ready (Err error.NoMemory)) × BeginFails v moment w)
    ⊎ ((u : View) × IsBegun v moment u × TurnsSay u w cx result)

-- a poll: once memory ran out nothing is done any more
abbrev pub PollSays : View → View → Context → ℕ → Poll (Result Unit DispatchError) → Type 0
PollSays v w cx moment result =
    ((is_broken v.ending ≡ true) × (w ≡ v) × (result ≡ Ready (Err error.NoMemory)))
    ⊎ ((is_broken v.ending ≡ false) × PollRuns v w cx moment result)
