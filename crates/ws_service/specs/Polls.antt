-- What a poll answers.
use Rattle.std.specs.Prelude.{◌≡◌, ◌≤◌, ◌<◌, ◌+◌, ◌*◌, ◌⊎◌, ◌++◌, ◌∷◌, ℕ, true, false, Some, None, List, [], length, ⊤, Result, Ok, Err}
use Rattle.std.specs.List.{AllByRecursion}
use Rattle.futures.specs.declared.task.Poll.{Poll}
use Rattle.futures.specs.declared.task.Poll.TheVariants.{Ready, Pending}
use Rattle.futures.specs.declared.task.context.Context.{Context}
use Rattle.http_config.specs.declared.Failed.{Failed}
use Rattle.http_types.specs.declared.error.Error.{Error}
use Rattle.ws_frames.specs.declared.message.Message.{Message}
use Rattle.model_h1.specs.Event as on
use Rattle.h1_connection.specs.State.{Is}
use Rattle.h1_connection.specs.declared.connection.ticks.Expiry.{Expiry}
use Rattle.h1_connection.specs.declared.event.End.{End}
use Rattle.ws_service.specs.declared.error.UpgradeError.{UpgradeError}
use Rattle.ws_service.specs.declared.error.UpgradeError.TheVariants as error
use Rattle.ws_service.specs.declared.dispatcher.Ending.TheVariants.{Closed, Abandoned, Broken}
use Rattle.ws_service.specs.declared.dispatcher.UpgradeTurn.{UpgradeTurn}
use Rattle.ws_service.specs.declared.dispatcher.UpgradeTurn.TheVariants.{Counted, Idle, Over}
use Rattle.ws_service.specs.declared.dispatcher.serve_frames.Given.{Given}
use Rattle.ws_service.specs.declared.dispatcher.serve_frames.Given.TheVariants.{Frame, Nothing, Other}
use Rattle.ws_service.specs.View.{View, Stage, free, waiting, calling, sending, is_broken, closes, allows, allows_next, allows_send, HasNoOutput, HasNoInput, IsForeign}
use Rattle.ws_service.specs.Steps.{Step, Goes, IsStep, IsRun, ticked, drained, written, read, told_end, shut, closed, ready, called, answered, pulled, sent, failed, unsent, failed_write, failed_read, asked_to_drain}

-- ---- how steps end

abbrev pub HasNotFailed : {A E : Type 0} → Poll (Result A E) → Type 0
HasNotFailed (Ready (Ok x)) = ⊤
HasNotFailed (Ready (Err e)) = ⊥
HasNotFailed Pending = ⊤

abbrev pub IsPending : {A : Type 0} → Poll A → Type 0
IsPending (Ready x) = ⊥
IsPending Pending = ⊤

-- A turn goes on after this step. A poll ends with a failure of the transport or of the service, with the transport's shutdown, or where
-- memory ran out; a moment and a drain come before its turns alone.
abbrev pub Continues : Step → Type 0
Continues (ticked moment expiry) = ⊥
Continues drained = ⊥
Continues (written answer) = HasNotFailed answer
Continues (read came answer) = HasNotFailed answer
Continues told_end = ⊤
Continues (shut answer) = IsPending answer
Continues (closed end) = ⊤
Continues (ready answer) = HasNotFailed answer
Continues (called item) = ⊤
Continues (answered answer) = HasNotFailed answer
Continues (pulled given) = ⊤
Continues (sent message) = ⊤
Continues (failed event) = ⊥
Continues (unsent message) = ⊥
Continues (failed_write count) = ⊥
Continues (failed_read came) = ⊥
Continues asked_to_drain = ⊥

abbrev pub AllContinue : List Step → Type 0
AllContinue steps = AllByRecursion Continues steps

-- this is the last one, and it goes on after each before it
abbrev pub EndsWith : List Step → Step → Type 0
EndsWith steps last = (before : List Step) × (steps ≡ before ++ last ∷ []) × AllContinue before

-- a call of the transport failed
abbrev pub FailsTransport : List Step → Type 0
FailsTransport steps =
    (failure : Failed) × (EndsWith steps (written (Ready (Err failure)))
    ⊎ (((came : List ℕ) × EndsWith steps (read came (Ready (Err failure)))) ⊎ EndsWith steps (shut (Ready (Err failure)))))

-- the service failed by this error, when it was asked whether it takes a call, or in a call
abbrev pub FailsService : Error → List Step → Type 0
FailsService e steps = EndsWith steps (ready (Ready (Err e))) ⊎ EndsWith steps (answered (Ready (Err e)))

-- a turn tells neither a moment nor the drain
abbrev pub IsOfTurn : on.Event → Type 0
IsOfTurn (on.tick moment) = ⊥
IsOfTurn on.drain = ⊥
IsOfTurn event = ⊤

-- memory ran out
abbrev pub LacksMemory : List Step → Type 0
LacksMemory steps =
    ((event : on.Event) × IsOfTurn event × EndsWith steps (failed event))
    ⊎ (((message : Message) × EndsWith steps (unsent message))
    ⊎ (((count : ℕ) × EndsWith steps (failed_write count)) ⊎ ((came : List ℕ) × EndsWith steps (failed_read came))))

-- Why a poll ended: each result has its cause.
abbrev pub Ended : View → List Step → Result Unit UpgradeError → Type 0
Ended w steps (Ok x) = EndsWith steps (shut (Ready (Ok tt))) × ((end : End) × (w.ending ≡ Some (Closed end)))
Ended w steps (Err error.Io) = FailsTransport steps
Ended w steps (Err (error.Upgrade e)) = FailsService e steps
Ended w steps (Err error.DisconnectTimeout) = AllContinue steps × (w.ending ≡ Some Abandoned)
Ended w steps (Err error.NoMemory) = (w.ending ≡ Some Broken) × (LacksMemory steps ⊎ AllContinue steps)
Ended w steps (Err error.NotUpgraded) = AllContinue steps × (w.ending ≡ None) × IsForeign w

-- ---- progress: an event that was noted, and whose outcome isn't that nothing came; or the transport showed the end of the input

abbrev pub moves : Poll (Result ℕ Failed) → ℕ
moves (Ready x) = 1
moves Pending = 0

abbrev pub brings : Given → ℕ
brings (Frame frame) = 1
brings Nothing = 0
brings Other = 1

abbrev pub counts : Step → ℕ
counts (written answer) = moves answer
counts (read came answer) = moves answer
counts told_end = 1
counts (closed end) = 1
counts (pulled given) = brings given
counts (sent message) = 1
counts step = 0

abbrev pub progress : List Step → ℕ
progress [] = 0
progress (step ∷ steps) = counts step + progress steps

-- ---- waiting

-- this is the last step
abbrev pub IsLast : Step → List Step → Type 0
IsLast d steps = (before : List Step) × (steps ≡ before ++ d ∷ [])

-- what is needed: no whole frame was there, and no end of the input is to be told; the service was pending, or its call was; there
-- is no room for its answer, until more is written
abbrev pub Needs : View → Stage → List Step → Type 0
Needs w free served = IsLast (pulled Nothing) served × ((w.input_ended ≡ false) ⊎ (allows w on.eof ≡ false))
Needs w (waiting item) served = IsLast (ready Pending) served
Needs w calling served = IsLast (answered Pending) served
Needs w (sending message) served = allows_send w ≡ false

-- the transport had no bytes, or none may be read, or none come any more
abbrev pub ReadsNothing : View → List Step → Type 0
ReadsNothing v reading = (reading ≡ read [] Pending ∷ []) ⊎ ((reading ≡ []) × HasNoInput v)

-- the transport took none of what waits to be written, or nothing waits that may be
abbrev pub Writes : View → List Step → Type 0
Writes v writing = (writing ≡ written Pending ∷ []) ⊎ ((writing ≡ []) × HasNoOutput v)

pub record IsReadIdle (v w : View) : Type 0 where
  pub reading : List Step
  pub reads : IsRun v reading w
  pub no_input : ReadsNothing v reading

-- Nothing more can be done for the service and the input of a connection that goes on: what it needs was tried, in at most so many
-- steps, and then the input.
pub record IsIdle (most : ℕ) (v w : View) : Type 0 where
  pub served : List Step
  pub between : View
  pub serves : IsRun v served between
  pub go_on : AllContinue served
  pub needs : Needs between between.stage served
  pub few : length served ≤ most
  pub input : IsReadIdle between w

-- the connection closes, and can't tell its end: what is left waits to be written, and may be
pub record IsHeld (v w : View) : Type 0 where
  pub stays : w ≡ v
  pub closing : closes v ≡ true
  pub next : allows_next v ≡ false
  pub may_write : allows v (on.write 0) ≡ true

-- nothing more can be done while the connection goes on: its writing waits, and then all else
pub record IsStuckRunning (v w : View) : Type 0 where
  pub running : v.ending ≡ None
  pub writing : List Step
  pub after : View
  pub writes : IsRun v writing after
  pub no_output : Writes v writing
  pub waits : IsHeld after w ⊎ ((closes after ≡ false) × IsIdle 3 after w)

-- the connection has ended, and the transport isn't shut down yet
pub record IsStuckShutting (v w : View) : Type 0 where
  pub end : End
  pub ended : v.ending ≡ Some (Closed end)
  pub shuts : IsRun v (shut Pending ∷ []) w

abbrev pub IsStuck : View → View → Type 0
IsStuck v w = IsStuckRunning v w ⊎ IsStuckShutting v w

-- ---- turns

-- after some steps, no more than so many, of which n are progress, it goes on
pub record Progress (v w : View) (n most : ℕ) : Type 0 where
  pub steps : List Step
  pub run : IsRun v steps w
  pub go_on : AllContinue steps
  pub enough : n ≤ progress steps
  pub few : length steps ≤ most

-- after some steps, no more than so many, it ends
pub record Ends (v w : View) (most : ℕ) (result : Result Unit UpgradeError) : Type 0 where
  pub steps : List Step
  pub run : IsRun v steps w
  pub ended : Ended w steps result
  pub few : length steps ≤ most

-- the transport was given what waits to be written in the first of these steps, or nothing waits that may be written
abbrev pub WritesFirst : View → List Step → Type 0
WritesFirst v steps = HasNoOutput v ⊎ ((answer : Poll (Result ℕ Failed)) × (rest : List Step) × (steps ≡ written answer ∷ rest))

-- a turn, of at most four steps: the transport took nothing, a call was begun and answered, and its answer sent
abbrev pub TurnSays : View → View → UpgradeTurn → Type 0
TurnSays v w Counted = (goes : Progress v w 1 4) × WritesFirst v goes.steps
TurnSays v w Idle = IsStuck v w
TurnSays v w (Over result) = Ends v w 4 result

-- after the writing
abbrev pub AfterSays : View → View → UpgradeTurn → Type 0
AfterSays v w Counted = Progress v w 1 3
AfterSays v w Idle = IsHeld v w ⊎ ((closes v ≡ false) × IsIdle 3 v w)
AfterSays v w (Over result) = Ends v w 3 result

-- where the connection doesn't close, in at most so many steps
abbrev pub ServeSays : ℕ → View → View → UpgradeTurn → Type 0
ServeSays most v w Counted = Progress v w 1 most
ServeSays most v w Idle = IsIdle most v w
ServeSays most v w (Over result) = Ends v w most result

-- where the input is read
abbrev pub ReadingSays : View → View → UpgradeTurn → Type 0
ReadingSays v w Counted = Progress v w 1 1
ReadingSays v w Idle = IsReadIdle v w
ReadingSays v w (Over result) = Ends v w 1 result

-- the end of the input was told
pub record TellsEnd (v w : View) : Type 0 where
  pub ended : v.input_ended ≡ true
  pub allowed : allows v on.eof ≡ true
  pub told : Goes v.traced on.eof (Is on.done) w.traced
  pub same : w ≡ record v { traced = w.traced }

-- where its end is to be told
abbrev pub TellSays : View → View → UpgradeTurn → Type 0
TellSays v w Counted = TellsEnd v w
TellSays v w Idle = ⊥
TellSays v w (Over result) = Ends v w 1 result

-- where no frame is left: the input is read, or its end is told
abbrev pub RestSays : View → View → UpgradeTurn → Type 0
RestSays v w Counted = Progress v w 1 1 ⊎ TellsEnd v w
RestSays v w Idle = IsReadIdle v w × ((v.input_ended ≡ false) ⊎ (allows v on.eof ≡ false))
RestSays v w (Over result) = Ends v w 1 result

-- where an event comes in any case
abbrev pub EndSays : View → View → UpgradeTurn → Type 0
EndSays v w Counted = Progress v w 1 1
EndSays v w Idle = ⊥
EndSays v w (Over result) = Ends v w 1 result

-- this holds where nothing more can be done
abbrev pub OnIdle : UpgradeTurn → Type 0 → Type 0
OnIdle Counted P = ⊤
OnIdle Idle P = P
OnIdle (Over result) P = ⊤

-- ---- a poll

-- the moment came, where it was allowed
abbrev pub Ticks : View → ℕ → View → Type 0
Ticks v moment w =
    ((allows v (on.tick moment) ≡ false) × (w ≡ v))
    ⊎ ((allows v (on.tick moment) ≡ true) × ((expiry : Expiry) × IsStep v (ticked moment expiry) w))

-- the drain came, where it was asked for and was allowed
abbrev pub Drains : View → View → Type 0
Drains v w =
    (((v.draining ≡ false) ⊎ (allows v on.drain ≡ false)) × (w ≡ v))
    ⊎ ((v.draining ≡ true) × (allows v on.drain ≡ true) × IsStep v drained w)

-- both, in this order
pub record IsBegun (v : View) (moment : ℕ) (w : View) : Type 0 where
  pub between : View
  pub ticks : Ticks v moment between
  pub drains : Drains between w

-- memory ran out in one of them
abbrev pub BeginFails : View → ℕ → View → Type 0
BeginFails v moment w =
    IsStep v (failed (on.tick moment)) w ⊎ ((between : View) × Ticks v moment between × IsStep between (failed on.drain) w)

abbrev pub TickSays : {A E : Type 0} → View → ℕ → View → Result A E → Type 0
TickSays v moment w (Ok x) = Ticks v moment w
TickSays v moment w (Err e) = IsStep v (failed (on.tick moment)) w

abbrev pub DrainSays : {A E : Type 0} → View → View → Result A E → Type 0
DrainSays v w (Ok x) = Drains v w
DrainSays v w (Err e) = IsStep v (failed on.drain) w

abbrev pub BeginSays : {A E : Type 0} → View → ℕ → View → Result A E → Type 0
BeginSays v moment w (Ok x) = IsBegun v moment w
BeginSays v moment w (Err e) = BeginFails v moment w

-- The turns of a poll are at most 64, of at most four steps each. They are pending where nothing more can be done, or where 64 steps
-- were progress, and then the task is woken; what waited to be written was given to the transport first.
pub record IsSpent (v w : View) (cx : Context) : Type 0 where
  pub goes : Progress v w 64 (4 * 64)
  pub first : WritesFirst v goes.steps
  pub woken : cx.is_woken ≡ true

pub record Waits (v w : View) : Type 0 where
  pub turns : ℕ
  pub fewer : turns < 64
  pub last : View
  pub goes : Progress v last turns (4 * turns)
  pub stuck : IsStuck last w

abbrev pub TurnsSay : View → View → Context → Poll (Result Unit UpgradeError) → Type 0
TurnsSay v w cx (Ready result) = Ends v w (4 * 64) result
TurnsSay v w cx Pending = Waits v w ⊎ IsSpent v w cx

-- memory ran out before the turns, or they came
abbrev pub PollRuns : View → View → Context → ℕ → Poll (Result Unit UpgradeError) → Type 0
PollRuns v w cx moment result =
    ((result ≡ Ready (Err error.NoMemory)) × BeginFails v moment w)
    ⊎ ((u : View) × IsBegun v moment u × TurnsSay u w cx result)

-- a poll: once memory ran out nothing is done any more
abbrev pub PollSays : View → View → Context → ℕ → Poll (Result Unit UpgradeError) → Type 0
PollSays v w cx moment result =
    ((is_broken v.ending ≡ true) × (w ≡ v) × (result ≡ Ready (Err error.NoMemory)))
    ⊎ ((is_broken v.ending ≡ false) × PollRuns v w cx moment result)
