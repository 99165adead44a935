-- What the steps of a run moved, in order.
use Rattle.std.specs.Prelude.{◌≡◌, ℕ, Some, None, List, [], ◌∷◌, ◌++◌, option_to_list, ⊤, Result, Ok, Err}
use Rattle.futures.specs.declared.task.Poll.TheVariants.{Ready, Pending}
use Rattle.http_framing.specs.AnyPieces.{GoesOn}
use Rattle.http_bodies.specs.Told.{Grows}
use Rattle.http_transport.specs.declared.framed.error.FramedError.TheVariants as framed
use Rattle.ws_dispatcher.specs.View.{View}
use Rattle.ws_dispatcher.specs.Steps.{Step, Reading, item_read, answer_queued, read, ready, called, answered, wrote, unwritten, closed, failed, flushed, told}
use Rattle.ws_dispatcher.specs.declared.inner.queue.Message.{Message}
use Rattle.ws_dispatcher.specs.declared.inner.queue.Message.TheVariants.{Item, Close}

-- the bytes that came
abbrev pub came_in : {Q I E : Type 0} → List (Step Q I E) → List ℕ
came_in [] = []
came_in (read came answer ∷ steps) = came ++ came_in steps
came_in (ready answer ∷ steps) = came_in steps
came_in (called item ∷ steps) = came_in steps
came_in (answered answer ∷ steps) = came_in steps
came_in (wrote message text ∷ steps) = came_in steps
came_in (unwritten message error ∷ steps) = came_in steps
came_in (closed ∷ steps) = came_in steps
came_in (failed error ∷ steps) = came_in steps
came_in (flushed gave answer ∷ steps) = came_in steps
came_in (told error ∷ steps) = came_in steps

-- the items that were read
abbrev pub items_in : {Q I E : Type 0} → List (Step Q I E) → List Q
items_in [] = []
items_in (read came answer ∷ steps) = option_to_list (item_read answer) ++ items_in steps
items_in (ready answer ∷ steps) = items_in steps
items_in (called item ∷ steps) = items_in steps
items_in (answered answer ∷ steps) = items_in steps
items_in (wrote message text ∷ steps) = items_in steps
items_in (unwritten message error ∷ steps) = items_in steps
items_in (closed ∷ steps) = items_in steps
items_in (failed error ∷ steps) = items_in steps
items_in (flushed gave answer ∷ steps) = items_in steps
items_in (told error ∷ steps) = items_in steps

-- the items that the service was called with
abbrev pub calls_in : {Q I E : Type 0} → List (Step Q I E) → List Q
calls_in [] = []
calls_in (read came answer ∷ steps) = calls_in steps
calls_in (ready answer ∷ steps) = calls_in steps
calls_in (called item ∷ steps) = item ∷ calls_in steps
calls_in (answered answer ∷ steps) = calls_in steps
calls_in (wrote message text ∷ steps) = calls_in steps
calls_in (unwritten message error ∷ steps) = calls_in steps
calls_in (closed ∷ steps) = calls_in steps
calls_in (failed error ∷ steps) = calls_in steps
calls_in (flushed gave answer ∷ steps) = calls_in steps
calls_in (told error ∷ steps) = calls_in steps

-- the answers that were put into the queue
abbrev pub queued_in : {Q I E : Type 0} → List (Step Q I E) → List (Result (Message I) E)
queued_in [] = []
queued_in (read came answer ∷ steps) = queued_in steps
queued_in (ready answer ∷ steps) = queued_in steps
queued_in (called item ∷ steps) = queued_in steps
queued_in (answered answer ∷ steps) = answer_queued answer ++ queued_in steps
queued_in (wrote message text ∷ steps) = queued_in steps
queued_in (unwritten message error ∷ steps) = queued_in steps
queued_in (closed ∷ steps) = queued_in steps
queued_in (failed error ∷ steps) = queued_in steps
queued_in (flushed gave answer ∷ steps) = queued_in steps
queued_in (told error ∷ steps) = queued_in steps

-- what was taken from the queue
abbrev pub taken_in : {Q I E : Type 0} → List (Step Q I E) → List (Result (Message I) E)
taken_in [] = []
taken_in (read came answer ∷ steps) = taken_in steps
taken_in (ready answer ∷ steps) = taken_in steps
taken_in (called item ∷ steps) = taken_in steps
taken_in (answered answer ∷ steps) = taken_in steps
taken_in (wrote message text ∷ steps) = Ok (Item message) ∷ taken_in steps
taken_in (unwritten message error ∷ steps) = Ok (Item message) ∷ taken_in steps
taken_in (closed ∷ steps) = Ok Close ∷ taken_in steps
taken_in (failed error ∷ steps) = Err error ∷ taken_in steps
taken_in (flushed gave answer ∷ steps) = taken_in steps
taken_in (told error ∷ steps) = taken_in steps

-- the texts that were written
abbrev pub texts_in : {Q I E : Type 0} → List (Step Q I E) → List ℕ
texts_in [] = []
texts_in (read came answer ∷ steps) = texts_in steps
texts_in (ready answer ∷ steps) = texts_in steps
texts_in (called item ∷ steps) = texts_in steps
texts_in (answered answer ∷ steps) = texts_in steps
texts_in (wrote message text ∷ steps) = text ++ texts_in steps
texts_in (unwritten message error ∷ steps) = texts_in steps
texts_in (closed ∷ steps) = texts_in steps
texts_in (failed error ∷ steps) = texts_in steps
texts_in (flushed gave answer ∷ steps) = texts_in steps
texts_in (told error ∷ steps) = texts_in steps

-- the bytes that the transport took
abbrev pub sent_in : {Q I E : Type 0} → List (Step Q I E) → List ℕ
sent_in [] = []
sent_in (read came answer ∷ steps) = sent_in steps
sent_in (ready answer ∷ steps) = sent_in steps
sent_in (called item ∷ steps) = sent_in steps
sent_in (answered answer ∷ steps) = sent_in steps
sent_in (wrote message text ∷ steps) = sent_in steps
sent_in (unwritten message error ∷ steps) = sent_in steps
sent_in (closed ∷ steps) = sent_in steps
sent_in (failed error ∷ steps) = sent_in steps
sent_in (flushed gave answer ∷ steps) = gave ++ sent_in steps
sent_in (told error ∷ steps) = sent_in steps

-- the items are asked in the order in which they were read, once each; one may be left
abbrev pub AsksInOrder : {U Q I E : Type 0} → View U Q I E → List (Step Q I E) → View U Q I E → Type 0
AsksInOrder v steps w = option_to_list v.waiting ++ items_in steps ≡ calls_in steps ++ option_to_list w.waiting

-- what is taken was queued before, in that order, and what is left stays
abbrev pub TakesInOrder : {U Q I E : Type 0} → View U Q I E → List (Step Q I E) → View U Q I E → Type 0
TakesInOrder v steps w = v.queue ++ queued_in steps ≡ taken_in steps ++ w.queue

-- what is sent was written before, in that order, and what is left stays
abbrev pub SendsInOrder : {U Q I E : Type 0} → View U Q I E → List (Step Q I E) → View U Q I E → Type 0
SendsInOrder v steps w = v.unsent ++ texts_in steps ≡ sent_in steps ++ w.unsent

-- what is known of the service and the transport grows by what the steps say
pub record Tells {U Q I E : Type 0} (v : View U Q I E) (steps : List (Step Q I E)) (w : View U Q I E) : Type 0 where
  pub called : Grows v.service.called w.service.called (calls_in steps)
  pub received : Grows v.transport.received w.transport.received (came_in steps)
  pub sent : Grows v.transport.sent w.transport.sent (sent_in steps)

-- the codec refused nothing
abbrev pub IsReadWell : {Q : Type 0} → Reading Q → Type 0
IsReadWell (Ready (Some (Ok item))) = ⊤
IsReadWell (Ready (Some (Err (framed.Codec e)))) = ⊥
IsReadWell (Ready (Some (Err framed.Io))) = ⊤
IsReadWell (Ready (Some (Err framed.NoMemory))) = ⊤
IsReadWell (Ready None) = ⊤
IsReadWell Pending = ⊤

-- no bytes were refused, and no message either
abbrev pub IsClean : {Q I E : Type 0} → List (Step Q I E) → Type 0
IsClean [] = ⊤
IsClean (read came answer ∷ steps) = IsReadWell answer × IsClean steps
IsClean (ready answer ∷ steps) = IsClean steps
IsClean (called item ∷ steps) = IsClean steps
IsClean (answered answer ∷ steps) = IsClean steps
IsClean (wrote message text ∷ steps) = IsClean steps
IsClean (unwritten message error ∷ steps) = ⊥
IsClean (closed ∷ steps) = IsClean steps
IsClean (failed error ∷ steps) = IsClean steps
IsClean (flushed gave answer ∷ steps) = IsClean steps
IsClean (told error ∷ steps) = IsClean steps

-- what is said, with these items in front
abbrev pub all_given : {Q R : Type 0} → (Q → R → R) → List Q → R → R
all_given given [] r = r
all_given given (item ∷ items) r = given item (all_given given items r)

-- a codec that has written something reads as before
abbrev pub KeepsReading : {U I R : Type 0} → (U → List ℕ → R → Type 0) → (U → I → List ℕ → U → Type 0) → Type 0
KeepsReading {U} {I} {R} reads writes = (d e : U) (item : I) (text bytes : List ℕ) (r : R) → writes d item text e → reads e bytes r → reads d bytes r

-- the items are those that the bytes say, from where the codec stood; it stands before what is left
abbrev pub ReadsAll : {U Q I E R : Type 0} → (U → List ℕ → R → Type 0) → (Q → R → R) → View U Q I E → List (Step Q I E) → View U Q I E → Type 0
ReadsAll reads given v steps w = GoesOn reads given v.codec (v.unread ++ came_in steps) (all_given given (items_in steps)) w.codec w.unread
