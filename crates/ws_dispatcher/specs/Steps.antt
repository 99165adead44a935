-- The steps of a dispatcher.
use Rattle.std.specs.Prelude.{◌≡◌, ◌<◌, ℕ, Bool, true, false, Option, Some, None, is_some, List, [], ◌∷◌, ◌++◌, length, ⊤, Result, Ok, Err}
use Rattle.futures.specs.declared.task.Poll.{Poll}
use Rattle.futures.specs.declared.task.Poll.TheVariants.{Ready, Pending}
use Rattle.http_config.specs.declared.Failed.{Failed}
use Rattle.http_services.specs.Serving.{Serving, ReadySays, CallSays, AnswerSays}
use Rattle.http_transport.specs.Flushes.{Gave}
use Rattle.http_transport.specs.Items.{Items}
use Rattle.http_transport.specs.declared.framed.error.FramedError.{FramedError}
use Rattle.ws_frames.specs.declared.error.ProtocolError.{ProtocolError}
use Rattle.ws_dispatcher.specs.View.{View, HasToSend, IsSettled}
use Rattle.ws_dispatcher.specs.declared.inner.queue.Message.{Message}
use Rattle.ws_dispatcher.specs.declared.inner.queue.Message.TheVariants.{Item, Close}

-- what is answered where an item is read
abbrev pub Reading : Type 0 → Type 0
Reading Q = Poll (Option (Result Q (FramedError ProtocolError)))

-- A step: these bytes came, and this was answered; the service was asked whether it takes a call, and takes none; it was
-- asked, takes one, and a call was begun; a call was polled; a message was taken and written as this text, or couldn't be written; a Close was taken, or an
-- error; the transport took these bytes; the error was reported.
pub data Step (Q I E : Type 0) : Type 0 where
  read : (came : List ℕ) → (answer : Reading Q) → Step Q I E
  ready : (answer : Poll (Result Unit E)) → Step Q I E
  called : (item : Q) → Step Q I E
  answered : (answer : Poll (Result I E)) → Step Q I E
  wrote : (message : I) → (text : List ℕ) → Step Q I E
  unwritten : (message : I) → (error : ProtocolError) → Step Q I E
  closed : Step Q I E
  failed : (error : E) → Step Q I E
  flushed : (gave : List ℕ) → (answer : Poll (Result Unit Failed)) → Step Q I E
  told : (error : E) → Step Q I E

-- the item that waits after a read
abbrev pub item_read : {Q : Type 0} → Reading Q → Option Q
item_read (Ready (Some (Ok item))) = Some item
item_read (Ready (Some (Err e))) = None
item_read (Ready None) = None
item_read Pending = None

-- the input has ended after a read
abbrev pub end_read : {Q : Type 0} → Reading Q → Bool
end_read (Ready None) = true
end_read (Ready (Some x)) = false
end_read Pending = false

-- the error that is kept after the service was asked whether it takes a call
abbrev pub error_of_ready : {E : Type 0} → Poll (Result Unit E) → Option E
error_of_ready (Ready (Err e)) = Some e
error_of_ready (Ready (Ok x)) = None
error_of_ready Pending = None

-- the same after a call was polled
abbrev pub error_of_answer : {I E : Type 0} → Poll (Result I E) → Option E
error_of_answer (Ready (Err e)) = Some e
error_of_answer (Ready (Ok x)) = None
error_of_answer Pending = None

-- the service takes no call
abbrev pub TakesNone : {E : Type 0} → Poll (Result Unit E) → Type 0
TakesNone (Ready (Err e)) = ⊤
TakesNone (Ready (Ok x)) = ⊥
TakesNone Pending = ⊤

-- an answer is queued
abbrev pub answer_queued : {I E : Type 0} → Poll (Result I E) → List (Result (Message I) E)
answer_queued (Ready (Ok x)) = Ok (Item x) ∷ []
answer_queued (Ready (Err e)) = []
answer_queued Pending = []

-- a call that answered isn't in progress any more
abbrev pub still_called : {I E : Type 0} → Poll (Result I E) → Bool
still_called (Ready x) = false
still_called Pending = true

-- a flush isn't done
abbrev pub is_unflushed : Poll (Result Unit Failed) → Bool
is_unflushed (Ready (Ok x)) = false
is_unflushed (Ready (Err e)) = true
is_unflushed Pending = true

-- nothing keeps it from going on
pub record IsOpen {U Q I E : Type 0} (v : View U Q I E) : Type 0 where
  pub no_close : v.closing ≡ false
  pub no_error : v.failing ≡ None

-- the service said that it takes a call, and then this one was begun
pub record Begins {Q I E : Type 0} (old new : Serving Q I E) (item : Q) : Type 0 where
  pub between : Serving Q I E
  pub is_ready : ReadySays old between (Ready (Ok tt))
  pub begun : CallSays between new item

-- Why a message is not written: the codec refuses it, or there was no memory, and then the codec is as before. After it
-- the codec is as it says.
pub record Unwritten {U I E : Type 0} (refuses : E → U → I → Type 0) (lacks : E → Type 0) (leaves : E → U → U → Type 0)
    (e : E) (old : U) (message : I) (new : U) : Type 0 where
  pub refused : ¬ (lacks e) → refuses e old message
  pub lacking : lacks e → new ≡ old
  pub left : leaves e old new

module _ {U Q I E R : Type 0} (reads : U → List ℕ → R → Type 0) (given : Q → R → R) (nothing : R)
    (breaks : ProtocolError → R → Type 0) (lacks : ProtocolError → Type 0) (seen : U → List ℕ → Type 0)
    (leaves : ProtocolError → U → List ℕ → U → List ℕ → Type 0) (writes : U → I → List ℕ → U → Type 0) (unwritten_so : ProtocolError → U → I → U → Type 0) where
  -- What a step takes, and what it leaves: all but what is named stays. The service is asked, its call polled and the input read
  -- only where nothing more can be buffered; the queue is taken from only while fewer than 8192 bytes wait to be sent; and the
  -- transport is given bytes, or flushed, only where something is to be sent.
  abbrev pub IsStep : View U Q I E → Step Q I E → View U Q I E → Type 0
  IsStep v (read came answer) w =
      IsOpen v × (v.waiting ≡ None) × (v.calling ≡ false) × (v.ended ≡ false)
      × ((woken : Bool) × Items reads given nothing breaks lacks seen leaves v.transport w.transport woken v.codec v.unread came w.codec w.unread answer)
      × (w ≡ record v { transport = w.transport; codec = w.codec; unread = w.unread; waiting = item_read answer; ended = end_read answer })
      × IsSettled v
  IsStep v (ready answer) w =
      IsOpen v × (v.calling ≡ false) × ReadySays v.service w.service answer
      × (w ≡ record v { service = w.service; failing = error_of_ready answer }) × TakesNone answer × (is_some v.waiting ≡ true) × IsSettled v
  IsStep v (called item) w =
      IsOpen v × (v.waiting ≡ Some item) × (v.calling ≡ false) × Begins v.service w.service item
      × (w ≡ record v { service = w.service; waiting = None; calling = true }) × IsSettled v
  IsStep v (answered answer) w =
      IsOpen v × (v.calling ≡ true) × AnswerSays v.service w.service answer
      × (w ≡ record v { service = w.service; calling = still_called answer; queue = v.queue ++ answer_queued answer; failing = error_of_answer answer })
      × IsSettled v
  IsStep v (wrote message text) w =
      IsOpen v × (v.queue ≡ Ok (Item message) ∷ w.queue) × writes v.codec message text w.codec
      × (w ≡ record v { codec = w.codec; unsent = v.unsent ++ text; queue = w.queue }) × (length v.unsent < 8192)
  IsStep v (unwritten message error) w =
      IsOpen v × (v.queue ≡ Ok (Item message) ∷ w.queue) × (w ≡ record v { codec = w.codec; queue = w.queue })
      × unwritten_so error v.codec message w.codec × (length v.unsent < 8192)
  IsStep v closed w =
      IsOpen v × (v.queue ≡ Ok Close ∷ w.queue) × (w ≡ record v { queue = w.queue; closing = true }) × (length v.unsent < 8192)
  IsStep v (failed error) w =
      IsOpen v × (v.queue ≡ Err error ∷ w.queue) × (w ≡ record v { queue = w.queue; failing = Some error }) × (length v.unsent < 8192)
  IsStep v (flushed gave answer) w =
      ((woken : Bool) × Gave v.transport w.transport woken v.unsent gave w.unsent answer) × (w ≡ record v { transport = w.transport; unsent = w.unsent; flushing = is_unflushed answer })
      × HasToSend v
  IsStep v (told error) w = (v.failing ≡ Some error) × (w ≡ record v { failing = None })

  -- one step after another
  abbrev pub IsRun : View U Q I E → List (Step Q I E) → View U Q I E → Type 0
  IsRun v [] w = w ≡ v
  IsRun v (step ∷ steps) w = (u : View U Q I E) × IsStep v step u × IsRun u steps w
