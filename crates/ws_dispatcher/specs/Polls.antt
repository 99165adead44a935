-- What a poll of a dispatcher answers.
use Rattle.std.specs.Prelude.{◌≡◌, ◌≤◌, ◌+◌, ◌*◌, ◌⊎◌, ◌++◌, ◌∷◌, ℕ, Bool, true, false, Option, Some, None, IsSome, List, [], length, ⊤, Result, Ok, Err}
use Rattle.std.specs.List.{AllByRecursion}
use Rattle.futures.specs.declared.task.Poll.{Poll}
use Rattle.futures.specs.declared.task.Poll.TheVariants.{Ready, Pending}
use Rattle.futures.specs.Task.{Hears}
use Rattle.futures.specs.declared.task.context.Context.{Context}
use Rattle.http_config.specs.Causes.{Rose}
use Rattle.http_config.specs.declared.Failed.{Failed}
use Rattle.http_services.specs.Serving.{Calling}
use Rattle.http_transport.specs.declared.framed.error.FramedError.{FramedError}
use Rattle.http_transport.specs.declared.framed.error.FramedError.TheVariants as framed
use Rattle.ws_frames.specs.declared.error.ProtocolError.{ProtocolError}
use Rattle.ws_frames.specs.declared.error.ProtocolError.TheVariants as protocol
use Rattle.ws_dispatcher.specs.View.{View, IsSent, IsSettled}
use Rattle.ws_dispatcher.specs.Steps.{Step, Reading, IsRun, read, ready, called, answered, wrote, unwritten, closed, failed, flushed, told}
use Rattle.ws_dispatcher.specs.declared.error.DispatcherError.{DispatcherError}
use Rattle.ws_dispatcher.specs.declared.error.DispatcherError.TheVariants.{Service, Encoder, Decoder}
use Rattle.ws_dispatcher.specs.declared.inner.dispatcher.Dispatcher.{Dispatcher}
use Rattle.ws_dispatcher.specs.declared.inner.dispatcher.Turn.{Turn}
use Rattle.ws_dispatcher.specs.declared.inner.dispatcher.Turn.TheVariants.{Counted, Idle, Over}

-- a call in progress may be polled
abbrev pub IsCallOpen : {C Q : Type 0} → (C → Calling Q) → Option C → Type 0
IsCallOpen calling None = ⊤
IsCallOpen calling (Some call) = (calling call).is_open ≡ true

-- the call in progress may be polled, if there is one
abbrev pub MayBePolled : {S C T U Q I E : Type 0} → (C → Calling Q) → Dispatcher S C T U Q I E → Type 0
MayBePolled calling d = IsCallOpen calling d.call

-- a read that gave no error
abbrev pub IsReadGood : {Q : Type 0} → Reading Q → Type 0
IsReadGood (Ready (Some (Ok item))) = ⊤
IsReadGood (Ready (Some (Err e))) = ⊥
IsReadGood (Ready None) = ⊤
IsReadGood Pending = ⊤

-- a flush that didn't fail
abbrev pub IsFlushGood : Poll (Result Unit Failed) → Type 0
IsFlushGood (Ready (Ok x)) = ⊤
IsFlushGood (Ready (Err e)) = ⊥
IsFlushGood Pending = ⊤

-- A poll goes on after this step. It ends with an error of a read, a message that couldn't be written, a failed flush,
-- or a reported error.
abbrev pub Continues : {Q I E : Type 0} → Step Q I E → Type 0
Continues (read came answer) = IsReadGood answer
Continues (ready answer) = ⊤
Continues (called item) = ⊤
Continues (answered answer) = ⊤
Continues (wrote message text) = ⊤
Continues (unwritten message error) = ⊥
Continues closed = ⊤
Continues (failed error) = ⊤
Continues (flushed gave answer) = IsFlushGood answer
Continues (told error) = ⊥

-- it goes on after each of these steps
abbrev pub AllContinue : {Q I E : Type 0} → List (Step Q I E) → Type 0
AllContinue steps = AllByRecursion Continues steps

-- these are the last ones, and it goes on after each before them
abbrev pub EndsWith : {Q I E : Type 0} → List (Step Q I E) → List (Step Q I E) → Type 0
EndsWith {Q} {I} {E} steps last = (before : List (Step Q I E)) × (steps ≡ before ++ last) × AllContinue before

-- ---- progress: a step by which something moved, or that gave an answer

abbrev pub moves : {A : Type 0} → Poll A → ℕ
moves (Ready x) = 1
moves Pending = 0

-- a flush that is pending moved something where the transport took some bytes
abbrev pub gives : Poll (Result Unit Failed) → List ℕ → ℕ
gives (Ready x) gave = 1
gives Pending [] = 0
gives Pending (b ∷ gave) = 1

abbrev pub counts : {Q I E : Type 0} → Step Q I E → ℕ
counts (read came answer) = moves answer
counts (ready answer) = moves answer
counts (called item) = 1
counts (answered answer) = moves answer
counts (wrote message text) = 1
counts (unwritten message error) = 0
counts closed = 1
counts (failed error) = 1
counts (flushed gave answer) = gives answer gave
counts (told error) = 0

abbrev pub progress : {Q I E : Type 0} → List (Step Q I E) → ℕ
progress [] = 0
progress (step ∷ steps) = counts step + progress steps

-- a poll has few steps: no more than 128, and of those that aren't progress no more than of those that are, and two
pub record AreFew {Q I E : Type 0} (steps : List (Step Q I E)) : Type 0 where
  pub most : length steps ≤ 2 * 64
  pub busy : length steps ≤ 2 * progress steps + 2

-- ---- what was written before goes out first

-- something was taken from the queue
abbrev pub IsTaking : {Q I E : Type 0} → Step Q I E → Type 0
IsTaking (read came answer) = ⊥
IsTaking (ready answer) = ⊥
IsTaking (called item) = ⊥
IsTaking (answered answer) = ⊥
IsTaking (wrote message text) = ⊤
IsTaking (unwritten message error) = ⊥
IsTaking closed = ⊤
IsTaking (failed error) = ⊤
IsTaking (flushed gave answer) = ⊥
IsTaking (told error) = ⊥

-- All was sent before these steps; or they only take what is queued; or, but for that, a flush is the first of them.
abbrev pub SendsFirst : {U Q I E : Type 0} → View U Q I E → List (Step Q I E) → Type 0
SendsFirst {U} {Q} {I} {E} v steps =
    IsSent v
    ⊎ (AllByRecursion IsTaking steps
    ⊎ ((taken : List (Step Q I E)) × (gave : List ℕ) × (answer : Poll (Result Unit Failed)) × (rest : List (Step Q I E))
    × (steps ≡ taken ++ flushed gave answer ∷ rest) × AllByRecursion IsTaking taken))

-- ---- waiting

-- what stays of it that the task asked for another poll
abbrev pub AskedAgain : Context → Type 0
AskedAgain cx = (source : ℕ) → Hears cx source

-- a flush was pending that gave these bytes: the transport was, or it took at least 64 and the task asked for another poll
abbrev pub FlushWaits : {U Q I E : Type 0} → View U Q I E → View U Q I E → Context → List ℕ → Type 0
FlushWaits v w cx gave =
    (Rose v.transport.write_waits w.transport.write_waits ⊎ Rose v.transport.flush_waits w.transport.flush_waits) ⊎ ((64 ≤ length gave) × AskedAgain cx)

-- the same of a read
abbrev pub ReadWaits : {U Q I E : Type 0} → View U Q I E → View U Q I E → Context → List ℕ → Type 0
ReadWaits v w cx came = Rose v.transport.read_waits w.transport.read_waits ⊎ ((64 ≤ length came) × (cx.is_woken ≡ true))

-- The first that applies was pending, in the last step: the call in progress; the service, while an item waits; the
-- transport's reading, while its input hasn't ended. After that something is still buffered or not passed on, and nothing else
-- is needed.
abbrev pub NeedsOf : {U Q I E : Type 0} → Bool → Option Q → Bool → View U Q I E → View U Q I E → Context → List (Step Q I E) → Type 0
NeedsOf true item ended v w cx last = (last ≡ answered Pending ∷ []) × Rose v.service.call_waits w.service.call_waits
NeedsOf false (Some item) ended v w cx last = (last ≡ ready Pending ∷ []) × Rose v.service.ready_waits w.service.ready_waits
NeedsOf false None false v w cx last = (came : List ℕ) × (last ≡ read came Pending ∷ []) × ReadWaits v w cx came
NeedsOf false None true v w cx last = (last ≡ []) × ¬ (IsSent w)

-- Nothing more can be done: straight before the end all was sent, or a flush was pending; then what is needed
-- was pending; and nothing more can be buffered.
pub record IsStuckOpen {U Q I E : Type 0} (v w : View U Q I E) (cx : Context) (steps : List (Step Q I E)) : Type 0 where
  pub flush : List (Step Q I E)
  pub need : List (Step Q I E)
  pub last : EndsWith steps (flush ++ need)
  pub writing : ((flush ≡ []) × IsSent w) ⊎ ((gave : List ℕ) × (flush ≡ flushed gave Pending ∷ []) × FlushWaits v w cx gave)
  pub queue : IsSettled w
  pub needs : NeedsOf w.calling w.waiting w.ended v w cx need

-- a Close was taken, or an error is to be reported
abbrev pub IsEnding : {U Q I E : Type 0} → View U Q I E → Type 0
IsEnding w = (w.closing ≡ true) ⊎ IsSome w.failing

-- it is to end, and the flush of what is buffered was pending at the end
pub record IsStuckEnding {U Q I E : Type 0} (v w : View U Q I E) (cx : Context) (steps : List (Step Q I E)) : Type 0 where
  pub ending : IsEnding w
  pub gave : List ℕ
  pub last : EndsWith steps (flushed gave Pending ∷ [])
  pub writing : FlushWaits v w cx gave

abbrev pub IsStuck : {U Q I E : Type 0} → View U Q I E → View U Q I E → Context → List (Step Q I E) → Type 0
IsStuck v w cx steps = IsStuckOpen v w cx steps ⊎ IsStuckEnding v w cx steps

-- the input has ended, and nothing is left to be done
pub record IsFinished {U Q I E : Type 0} (w : View U Q I E) : Type 0 where
  pub ended : w.ended ≡ true
  pub waiting : w.waiting ≡ None
  pub calling : w.calling ≡ false
  pub queue : w.queue ≡ []

-- the error of a read, which is the codec's, or says that the transport failed or that memory ran out
abbrev pub read_error : FramedError ProtocolError → ProtocolError
read_error (framed.Codec e) = e
read_error framed.Io = protocol.Io
read_error framed.NoMemory = protocol.NoMemory

-- a flush failed, and then these came last
abbrev pub FlushFailed : {U Q I E : Type 0} → View U Q I E → View U Q I E → List (Step Q I E) → List (Step Q I E) → Type 0
FlushFailed v w steps last =
    (gave : List ℕ) × (failure : Failed) × EndsWith steps (flushed gave (Ready (Err failure)) ∷ last) × Rose v.transport.faults w.transport.faults

-- Why it ended, with no error before. A Close was taken and all is sent, or the input has ended and nothing is left to
-- be done or sent, and no error waits. The service's error, once nothing is buffered or a flush failed. While no error
-- waits: a message that couldn't be written, a flush that failed, or no memory for the answer of the call in progress. A
-- read that gave an error.
abbrev pub Ended : {U Q I E : Type 0} → View U Q I E → View U Q I E → List (Step Q I E) → Result Unit (DispatcherError E) → Type 0
Ended v w steps (Ok x) = AllContinue steps × IsSent w × (w.failing ≡ None) × ((w.closing ≡ true) ⊎ IsFinished w)
Ended v w steps (Err (Service e)) = (EndsWith steps (told e ∷ []) × IsSent w) ⊎ FlushFailed v w steps (told e ∷ [])
Ended {U} {Q} {I} {E} v w steps (Err (Encoder e)) =
    (w.failing ≡ None) × (((message : I) × EndsWith steps (unwritten message e ∷ []))
    ⊎ (((e ≡ protocol.Io) × FlushFailed v w steps []) ⊎ ((e ≡ protocol.NoMemory) × AllContinue steps × (w.calling ≡ true))))
Ended {U} {Q} {I} {E} v w steps (Err (Decoder e)) =
    (came : List ℕ) × (cause : FramedError ProtocolError) × EndsWith steps (read came (Ready (Some (Err cause))) ∷ []) × (e ≡ read_error cause)

-- what a turn answers, of at most two steps
abbrev pub TurnAnswers : {U Q I E : Type 0} → View U Q I E → View U Q I E → Context → List (Step Q I E) → Turn E → Type 0
TurnAnswers v w cx steps Counted = AllContinue steps × (1 ≤ progress steps) × (length steps ≤ 2) × SendsFirst v steps
TurnAnswers v w cx steps Idle = AllContinue steps × IsStuck v w cx steps × (length steps ≤ 2)
TurnAnswers v w cx steps (Over result) = Ended v w steps result × (length steps ≤ 2)

-- the same of a turn that leaves the writing as it is, of at most one step
abbrev pub ServeAnswers : {U Q I E : Type 0} → View U Q I E → View U Q I E → Context → List (Step Q I E) → Turn E → Type 0
ServeAnswers v w cx steps Counted = AllContinue steps × (1 ≤ progress steps) × (length steps ≤ 1)
ServeAnswers v w cx steps Idle = AllContinue steps × NeedsOf w.calling w.waiting w.ended v w cx steps × (w.queue ≡ v.queue) × (w.unsent ≡ v.unsent)
    × (w.flushing ≡ v.flushing) × (length steps ≤ 1)
ServeAnswers v w cx steps (Over result) = Ended v w steps result × (length steps ≤ 1)

-- this holds where nothing more can be done
abbrev pub OnIdle : {E : Type 0} → Turn E → Type 0 → Type 0
OnIdle Counted P = ⊤
OnIdle Idle P = P
OnIdle (Over result) P = ⊤

-- What a poll answers. It has few steps. It is pending where nothing more can be done, or after 64 steps that were progress: then
-- the task is woken, and what waited to be sent was given to the transport first.
abbrev pub PollAnswers : {U Q I E : Type 0} → View U Q I E → View U Q I E → Context → List (Step Q I E) → Poll (Result Unit (DispatcherError E)) → Type 0
PollAnswers v w cx steps (Ready result) = Ended v w steps result × AreFew steps
PollAnswers v w cx steps Pending =
    AllContinue steps × AreFew steps × (IsStuck v w cx steps ⊎ ((64 ≤ progress steps) × (cx.is_woken ≡ true) × SendsFirst v steps))

module _ {U Q I E R : Type 0} (reads : U → List ℕ → R → Type 0) (given : Q → R → R) (nothing : R)
    (breaks : ProtocolError → R → Type 0) (lacks : ProtocolError → Type 0) (seen : U → List ℕ → Type 0)
    (leaves : ProtocolError → U → List ℕ → U → List ℕ → Type 0) (writes : U → I → List ℕ → U → Type 0) (unwritten_so : ProtocolError → U → I → U → Type 0) where
  -- a turn is a run of steps
  abbrev pub TurnSays : View U Q I E → View U Q I E → Context → Turn E → Type 0
  TurnSays v w cx result =
      (steps : List (Step Q I E)) × IsRun reads given nothing breaks lacks seen leaves writes unwritten_so v steps w × TurnAnswers v w cx steps result

  abbrev pub ServeSays : View U Q I E → View U Q I E → Context → Turn E → Type 0
  ServeSays v w cx result =
      (steps : List (Step Q I E)) × IsRun reads given nothing breaks lacks seen leaves writes unwritten_so v steps w × ServeAnswers v w cx steps result

  -- the last turn is one, too
  abbrev pub EndSays : View U Q I E → View U Q I E → Result Unit (DispatcherError E) → Type 0
  EndSays v w result =
      (steps : List (Step Q I E)) × IsRun reads given nothing breaks lacks seen leaves writes unwritten_so v steps w × Ended v w steps result × (length steps ≤ 2)

  -- a poll is a run of steps
  abbrev pub PollSays : View U Q I E → View U Q I E → Context → Poll (Result Unit (DispatcherError E)) → Type 0
  PollSays v w cx result =
      (steps : List (Step Q I E)) × IsRun reads given nothing breaks lacks seen leaves writes unwritten_so v steps w × PollAnswers v w cx steps result
