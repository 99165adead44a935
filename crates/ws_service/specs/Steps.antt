-- The steps of a dispatcher of an upgraded connection.
use Rattle.std.specs.Prelude.{◌≡◌, ◌≤◌, ◌<◌, ◌⊎◌, ℕ, zero, suc, Bool, true, false, Option, Some, None, List, [], ◌∷◌, ◌++◌, length, take, ⊤, Result, Ok, Err}
use Rattle.futures.specs.declared.task.Poll.{Poll}
use Rattle.futures.specs.declared.task.Poll.TheVariants.{Ready, Pending}
use Rattle.http_config.specs.declared.Failed.{Failed}
use Rattle.http_types.specs.declared.error.Error.{Error}
use Rattle.http_services.specs.Serving.{ReadySays, CallSays, AnswerSays}
use Rattle.http_transport.specs.Wiring.{ReadSays, WriteSays, ShutSays, moved}
use Rattle.ws_frames.specs.Sent.{message_says}
use Rattle.ws_frames.specs.declared.message.Message.{Message}
use Rattle.model_state.specs.Local.{closing_by}
use Rattle.model_h1.specs.Event as on
use Rattle.h1_connection.specs.Heads.{SaysNext}
use Rattle.h1_connection.specs.EventMeaning.{setting_of, end_of, SaysOutcome}
use Rattle.h1_connection.specs.State.{Is, TakesNoMemory}
use Rattle.h1_connection.specs.Ticks.{expiry_of}
use Rattle.h1_connection.specs.declared.connection.heads.NextHead.{NextHead}
use Rattle.h1_connection.specs.declared.connection.ticks.Expiry.{Expiry}
use Rattle.h1_connection.specs.declared.connection.ticks.Expiry.TheVariants as expiries
use Rattle.h1_connection.specs.declared.event.End.{End}
use Rattle.h1_connection.specs.declared.event.Outcome.{Outcome}
use Rattle.h1_connection.specs.declared.event.Outcome.TheVariants as out
use Rattle.h1_traced.specs.Traced.{TracedView, TracedSteps, TracedFails}
use Rattle.ws_service.specs.declared.item.UpgradeItem.{UpgradeItem}
use Rattle.ws_service.specs.declared.item.UpgradeItem.TheVariants as items
use Rattle.ws_service.specs.declared.dispatcher.Ending.{Ending}
use Rattle.ws_service.specs.declared.dispatcher.Ending.TheVariants.{Closed, Abandoned, Broken}
use Rattle.ws_service.specs.declared.dispatcher.serve_frames.Given.{Given}
use Rattle.ws_service.specs.declared.dispatcher.serve_frames.Given.TheVariants.{Frame, Nothing, Other}
use Rattle.ws_service.specs.View.{View, Upgrading, Stage, free, waiting, calling, sending, with_drain, closes, allows, allows_next, allows_pull, buffered, room}

-- A step. A moment came; the drain came; the transport was given what waits to be written; it was asked for bytes, and these came;
-- no frame was left, and the connection was told that the input has ended; the transport was shut down; the connection closes, and told its end; the service was asked whether it takes a call, and takes none; it
-- takes one, and was called with this; its call was polled; the next frame was asked for; an answer was sent. Or memory ran
-- out: for an event; for a message that was to be sent; for that of bytes which the transport took, or gave. Or it was asked to
-- drain, which no poll does.
pub data Step : Type 0 where
  ticked : (moment : ℕ) → (expiry : Expiry) → Step
  drained : Step
  written : (answer : Poll (Result ℕ Failed)) → Step
  read : (came : List ℕ) → (answer : Poll (Result ℕ Failed)) → Step
  told_end : Step
  shut : (answer : Poll (Result Unit Failed)) → Step
  closed : (end : End) → Step
  ready : (answer : Poll (Result Unit Error)) → Step
  called : (item : UpgradeItem) → Step
  answered : (answer : Poll (Result Message Error)) → Step
  pulled : (given : Given) → Step
  sent : (message : Message) → Step
  failed : (event : on.Event) → Step
  unsent : (message : Message) → Step
  failed_write : (count : ℕ) → Step
  failed_read : (came : List ℕ) → Step
  asked_to_drain : Step

-- ---- of the connection

-- the event came to the connection, was noted, and had such an outcome; its settings stay
pub record Goes (old : TracedView) (event : on.Event) (Says : on.Outcome → Type 0) (new : TracedView) : Type 0 where
  pub steps : TracedSteps old event Says new
  pub settings : new.state.settings ≡ old.state.settings

-- how it has ended after a tick
abbrev pub ending_at : Expiry → Option Ending → Option Ending
ending_at expiries.None ending = ending
ending_at (expiries.Expired end) ending = ending
ending_at expiries.Abandoned ending = Some Abandoned

-- the transport is given the first bytes that wait: some
pub record IsFront (v : View) (front : List ℕ) : Type 0 where
  pub rest : List ℕ
  pub first : front ++ rest ≡ buffered v
  pub some : 0 < length front

-- bytes that the transport took were written
abbrev pub Wrote : TracedView → TracedView → Poll (Result ℕ Failed) → Type 0
Wrote old new (Ready (Ok n)) =
    (n ≤ length old.state.kept.buffered) × Goes old (on.write n) (Is (on.gave (take n old.state.kept.buffered))) new
Wrote old new (Ready (Err e)) = new ≡ old
Wrote old new Pending = new ≡ old

-- bytes that came were read; that none come is told later
abbrev pub Took : TracedView → TracedView → List ℕ → Poll (Result ℕ Failed) → Type 0
Took old new came (Ready (Ok n)) =
    ((n ≡ 0) × (new ≡ old)) ⊎ ((0 < n) × ((count : ℕ) × Goes old (on.read came) (Is (on.took count)) new))
Took old new came (Ready (Err e)) = new ≡ old
Took old new came Pending = new ≡ old

-- a read of no byte shows the end of the input
abbrev pub shows_end : Poll (Result ℕ Failed) → Bool
shows_end (Ready (Ok zero)) = true
shows_end (Ready (Ok (suc n))) = false
shows_end (Ready (Err e)) = false
shows_end Pending = false

-- ---- of the service

-- what asking for a frame gave: a frame, nothing yet, or something else, by which the connection closes
abbrev pub given_of : Outcome → Given
given_of (out.Frame frame) = Frame frame
given_of out.Pending = Nothing
given_of (out.Took count) = Other
given_of (out.Head item) = Other
given_of (out.Bytes bytes) = Other
given_of (out.Trailers map) = Other
given_of out.BodyEnd = Other
given_of (out.Closed end) = Other
given_of (out.Fault fault) = Other
given_of (out.Broken fault) = Other
given_of (out.Protocol error) = Other
given_of (out.Refused error) = Other
given_of (out.Gave bytes) = Other
given_of (out.Expired end) = Other
given_of out.Abandoned = Other
given_of out.Done = Other

-- a frame waits for the service
abbrev pub stage_given : Given → Stage
stage_given (Frame frame) = waiting (items.Frame frame)
stage_given Nothing = free
stage_given Other = free

-- the service takes no call
abbrev pub TakesNone : Poll (Result Unit Error) → Type 0
TakesNone (Ready (Ok x)) = ⊥
TakesNone (Ready (Err e)) = ⊤
TakesNone Pending = ⊤

-- the service said that it takes a call, and then this one was begun
pub record Begins (old new : Upgrading) (item : UpgradeItem) : Type 0 where
  pub between : Upgrading
  pub is_ready : ReadySays old between (Ready (Ok tt))
  pub begun : CallSays between new item

-- an answer is to be sent; of a call that failed there is none
abbrev pub stage_answered : Poll (Result Message Error) → Stage
stage_answered (Ready (Ok message)) = sending message
stage_answered (Ready (Err e)) = free
stage_answered Pending = calling

-- the service is dealt with only while the connection goes on
pub record GoesOn (v : View) : Type 0 where
  pub running : v.ending ≡ None
  pub opened : closes v ≡ false

-- the next frame was asked for, and none was there
pub record FindsNone (v u : View) : Type 0 where
  pub asked : Goes v.traced on.pull (SaysOutcome out.Pending) u.traced
  pub same : u ≡ record v { traced = u.traced }

-- ---- all

-- memory may be wanted for this event: by who notes it, or by the connection
abbrev pub WantsMemory : View → on.Event → Type 0
WantsMemory v event = (v.listening ≡ true) ⊎ ¬ (TakesNoMemory v.traced.state event)

-- Memory ran out for one of these, where it is allowed and may be wanted: the moment, the drain where it was asked for, the end of a
-- connection that closes, the next frame, or the end of the input.
abbrev pub MayFail : View → on.Event → Type 0
MayFail v (on.tick moment) = (allows v (on.tick moment) ≡ true) × WantsMemory v (on.tick moment)
MayFail v on.drain = (v.draining ≡ true) × (allows v on.drain ≡ true) × (v.listening ≡ true)
MayFail v on.next = (v.ending ≡ None) × (closes v ≡ true) × (allows_next v ≡ true) × (v.listening ≡ true)
MayFail v on.pull = (v.ending ≡ None) × (v.stage ≡ free) × (allows_pull v ≡ true) × WantsMemory v on.pull
MayFail v on.eof = (v.ending ≡ None) × (v.stage ≡ free) × (v.input_ended ≡ true) × (allows v on.eof ≡ true) × (v.listening ≡ true)
MayFail v event = ⊥

-- What a step takes, and what it leaves: all but what is named stays.
abbrev pub IsStep : View → Step → View → Type 0
IsStep v (ticked moment expiry) w =
    Goes v.traced (on.tick moment) (Is (expiry_of expiry)) w.traced × (w ≡ record v { traced = w.traced; ending = ending_at expiry v.ending })
IsStep v drained w = Goes v.traced on.drain (Is on.done) w.traced × (w ≡ record v { traced = w.traced })
IsStep v (written answer) w =
    (v.ending ≡ None) × ((front : List ℕ) × IsFront v front × WriteSays v.transport w.transport answer front) × Wrote v.traced w.traced answer
    × (w ≡ record v { traced = w.traced; transport = w.transport })
IsStep v (read came answer) w =
    (v.ending ≡ None) × (allows v on.eof ≡ true)
    × ((buf : List ℕ) × (0 < length buf) × (length buf ≤ room v) × (came ≡ moved answer buf) × ReadSays v.transport w.transport answer buf)
    × Took v.traced w.traced came answer
    × (w ≡ record v { traced = w.traced; transport = w.transport; input_ended = shows_end answer }) × (v.input_ended ≡ false)
IsStep v told_end w =
    (v.ending ≡ None) × (v.stage ≡ free) × (v.input_ended ≡ true) × (allows_pull v ≡ true)
    × ((between : View) × FindsNone v between × (allows between on.eof ≡ true) × Goes between.traced on.eof (Is on.done) w.traced)
    × (w ≡ record v { traced = w.traced })
IsStep v (shut answer) w =
    ((end : End) × (v.ending ≡ Some (Closed end))) × ShutSays v.transport w.transport answer × (w ≡ record v { transport = w.transport })
IsStep v (closed end) w =
    (v.ending ≡ None) × (closing_by (setting_of v.traced.state.settings) v.traced.state.kept ≡ Some (end_of end))
    × (allows_next v ≡ true) × ((head : NextHead) × Goes v.traced on.next (SaysNext head) w.traced)
    × (w ≡ record v { traced = w.traced; ending = Some (Closed end) })
IsStep v (ready answer) w =
    GoesOn v × ((item : UpgradeItem) × (v.stage ≡ waiting item)) × TakesNone answer × ReadySays v.service w.service answer
    × (w ≡ record v { service = w.service })
IsStep v (called item) w =
    GoesOn v × (v.stage ≡ waiting item) × Begins v.service w.service item × (w ≡ record v { service = w.service; stage = calling })
IsStep v (answered answer) w =
    GoesOn v × (v.stage ≡ calling) × AnswerSays v.service w.service answer
    × (w ≡ record v { service = w.service; stage = stage_answered answer })
IsStep v (pulled given) w =
    (v.ending ≡ None) × (v.stage ≡ free) × (allows_pull v ≡ true)
    × ((outcome : Outcome) × (given ≡ given_of outcome) × Goes v.traced on.pull (SaysOutcome outcome) w.traced)
    × (w ≡ record v { traced = w.traced; stage = stage_given given })
IsStep v (sent message) w =
    (v.ending ≡ None) × (v.stage ≡ sending message) × (allows v (on.send (message_says message)) ≡ true)
    × ((outcome : Outcome) × Goes v.traced (on.send (message_says message)) (SaysOutcome outcome) w.traced)
    × (w ≡ record v { traced = w.traced; stage = free })
IsStep v (failed event) w = MayFail v event × TracedFails v.traced event w.traced × (w ≡ record v { traced = w.traced; ending = Some Broken })
IsStep v (unsent message) w =
    (v.ending ≡ None) × (v.stage ≡ sending message) × (allows v (on.send (message_says message)) ≡ true)
    × TracedFails v.traced (on.send (message_says message)) w.traced
    × (w ≡ record v { traced = w.traced; stage = free; ending = Some Broken }) × WantsMemory v (on.send (message_says message))
IsStep v (failed_write count) w =
    (v.ending ≡ None) × ((front : List ℕ) × IsFront v front × WriteSays {E = Failed} v.transport w.transport (Ready (Ok count)) front)
    × TracedFails v.traced (on.write count) w.traced
    × (w ≡ record v { traced = w.traced; transport = w.transport; ending = Some Broken }) × (v.listening ≡ true)
IsStep v (failed_read came) w =
    (v.ending ≡ None) × (allows v on.eof ≡ true)
    × ((buf : List ℕ) × (count : ℕ) × (0 < length buf) × (length buf ≤ room v) × (came ≡ take count buf)
    × ReadSays {E = Failed} v.transport w.transport (Ready (Ok count)) buf × (0 < count))
    × TracedFails v.traced (on.read came) w.traced
    × (w ≡ record v { traced = w.traced; transport = w.transport; ending = Some Broken }) × (v.input_ended ≡ false)
IsStep v asked_to_drain w = w ≡ with_drain v

-- one step after another
abbrev pub IsRun : View → List Step → View → Type 0
IsRun v [] w = w ≡ v
IsRun v (step ∷ steps) w = (u : View) × IsStep v step u × IsRun u steps w
