-- What a poll answers, and the turns that it makes.
use Rattle.std.specs.Prelude.{◌≡◌, ◌≤◌, ◌⊎◌, ⊤, ℕ, ◌+◌, Bool, true, List, [], ◌∷◌, ◌++◌, length, Result, Ok, Err}
use Rattle.futures.specs.declared.task.Poll.{Poll}
use Rattle.futures.specs.declared.task.Poll.TheVariants.{Ready, Pending}
use Rattle.http_config.specs.Causes.{Rose}
use Rattle.http_bodies.specs.Giving.{Given, fault}
use Rattle.http_framing.specs.declared.body.size.BodySize.{BodySize}
use Rattle.http_transport.specs.Wiring.{Wiring}
use Rattle.h1_codec.specs.declared.framed_message.Message.{Message}
use Rattle.h1_codec.specs.View.{View}
use Rattle.h1_codec.specs.Sends.{Sends, ends, given_count, IsLost}
use Rattle.h1_codec.specs.declared.send_error.SendError.{SendError}
use Rattle.h1_codec.specs.declared.send_error.SendError.TheVariants.{Body, NoMemory, Transport, Codec}
use Rattle.h1_codec.specs.declared.sending.Fed.{Fed}
use Rattle.h1_codec.specs.declared.sending.Fed.TheVariants as fed
use Rattle.h1_codec.specs.declared.turn.Turn.{Turn}
use Rattle.h1_codec.specs.declared.turn.Turn.TheVariants.{Goes, Waits, Over}

-- the most turns of a poll, each with at most one answer of the body
abbrev pub MAX_TURNS : ℕ
MAX_TURNS = 64

-- how much moved: the chunks that the body gave, the bytes that the transport took, and the end, where it was written meanwhile
abbrev pub moved : List Given → List ℕ → Bool → Bool → ℕ
moved given gave before now = length given + (length gave + length (ends {A = Unit} before now))

-- the transport was pending, or it took at least 64 bytes and the task was woken
abbrev pub TransportWaits : Wiring → Wiring → List ℕ → Bool → Type 0
TransportWaits old new gave woken = (Rose old.write_waits new.write_waits ⊎ Rose old.flush_waits new.flush_waits) ⊎ ((64 ≤ length gave) × (woken ≡ true))

-- nothing is left to give the transport, or it waits
abbrev pub IsGiven : {U H : Type 0} → View U H → View U H → List ℕ → Bool → Type 0
IsGiven old new gave woken = (new.unsent ≡ []) ⊎ TransportWaits old.transport new.transport gave woken

-- the body has ended, or what waits to be sent leaves no room for it, or it was pending
abbrev pub BodyWaits : {U H : Type 0} → View U H → View U H → Type 0
BodyWaits old new = (new.is_ended ≡ true) ⊎ ((8192 ≤ length new.unsent) ⊎ Rose old.body.waits new.body.waits)

-- The transport waits, and no more of the body can be had meanwhile; the body was pending, and nothing is left to send; or at
-- least 64 chunks and bytes moved, the task was woken, and the transport was given what is left.
abbrev pub WaitsFor : {U H : Type 0} → View U H → View U H → List Given → List ℕ → Bool → Type 0
WaitsFor old new given gave woken =
    (TransportWaits old.transport new.transport gave woken × BodyWaits old new)
    ⊎ ((Rose old.body.waits new.body.waits × (new.unsent ≡ []))
    ⊎ ((64 ≤ moved given gave old.is_ended new.is_ended) × (woken ≡ true) × IsGiven old new gave woken))

-- the end is written, and the transport took all
abbrev pub IsDone : {U H : Type 0} → View U H → Type 0
IsDone v = (v.is_ended ≡ true) × (v.unsent ≡ [])

-- the body gave at most so many answers
abbrev pub GivenFew : {U H : Type 0} → ℕ → View U H → View U H → List Given → Type 0
GivenFew most old new given = given_count given old.is_ended new.is_ended ≤ most

-- it was sent so
abbrev pub SendsFew : {U H : Type 0} → (U → Message (H × BodySize) → List ℕ → U → Type 0) → ℕ → View U H → View U H → Type 0
SendsFew writes most old new = (sends : Sends writes old new) × GivenFew most old new sends.given

-- something moved, by one answer of the body at most
abbrev pub Moves : {U H : Type 0} → (U → Message (H × BodySize) → List ℕ → U → Type 0) → View U H → View U H → Type 0
Moves writes old new =
    (sends : Sends writes old new) × (1 ≤ moved sends.given sends.gave old.is_ended new.is_ended) × GivenFew 1 old new sends.given

-- nothing more can be done until the task is woken
abbrev pub Rests : {U H : Type 0} → (U → Message (H × BodySize) → List ℕ → U → Type 0) → ℕ → View U H → View U H → Bool → Type 0
Rests writes most old new woken =
    (sends : Sends writes old new) × WaitsFor old new sends.given sends.gave woken × GivenFew most old new sends.given

-- which codec writes, what it refuses, which errors say that memory ran out, and what they leave
module _ {U H E : Type 0} (writes : U → Message (H × BodySize) → List ℕ → U → Type 0) (refuses : E → U → Message (H × BodySize) → Type 0)
    (lacks : E → Type 0) (leaves : E → U → U → Type 0) where
  -- The body's last answer was this fault; the body, which takes memory, had none; the transport failed; or an item isn't
  -- written. What was sent before is as ever, and the body gave at most so many answers.
  abbrev pub FailSays : ℕ → View U H → View U H → SendError E → Type 0
  FailSays most old new (Body n) =
      (sends : Sends writes old new) × (front : List Given) × (sends.given ≡ front ++ (fault n ∷ [])) × Rose old.body.faults new.body.faults
      × GivenFew most old new sends.given
  FailSays most old new NoMemory = SendsFew writes most old new × (old.body.takes_memory ≡ true)
  FailSays most old new Transport = SendsFew writes most old new × Rose old.transport.faults new.transport.faults
  FailSays most old new (Codec error) = IsLost writes refuses lacks leaves most error old new

  -- what the next of the body came to
  abbrev pub FedSays : View U H → View U H → Fed E → Type 0
  FedSays old new fed.Moved = Moves writes old new
  FedSays old new fed.Waits = SendsFew writes 0 old new × Rose old.body.waits new.body.waits
  FedSays old new (fed.Failed error) = FailSays 1 old new error

  -- what some turns came to, of which each has at most one answer of the body
  abbrev pub TurnSays : ℕ → View U H → View U H → Bool → Turn E → Type 0
  TurnSays most old new woken Goes = Moves writes old new
  TurnSays most old new woken Waits = Rests writes most old new woken
  TurnSays most old new woken (Over (Ok x)) = SendsFew writes most old new × IsDone new
  TurnSays most old new woken (Over (Err error)) = FailSays most old new error

  -- what a poll answers
  abbrev pub SendSays : View U H → View U H → Bool → Poll (Result Unit (SendError E)) → Type 0
  SendSays old new woken Pending = Rests writes MAX_TURNS old new woken
  SendSays old new woken (Ready (Ok x)) = SendsFew writes MAX_TURNS old new × IsDone new
  SendSays old new woken (Ready (Err error)) = FailSays MAX_TURNS old new error

-- a turn that gives the transport what is buffered, while the body is pending
abbrev pub WaitSays : {U H E : Type 0} → (U → Message (H × BodySize) → List ℕ → U → Type 0) → View U H → View U H → Bool → Turn E → Type 0
WaitSays writes old new woken Goes = ⊥
WaitSays writes old new woken Waits = (sends : Sends writes old new) × IsGiven old new sends.gave woken × GivenFew 0 old new sends.given
WaitSays writes old new woken (Over (Ok x)) = ⊥
WaitSays writes old new woken (Over (Err Transport)) = SendsFew writes 0 old new × Rose old.transport.faults new.transport.faults
WaitSays writes old new woken (Over (Err error)) = ⊥

-- the turns are spent, and the transport is given what is buffered
abbrev pub SpentSays : {U H E : Type 0} → (U → Message (H × BodySize) → List ℕ → U → Type 0) → View U H → View U H → Bool → Poll (Result Unit (SendError E)) → Type 0
SpentSays writes old new woken Pending =
    (sends : Sends writes old new) × (woken ≡ true) × IsGiven old new sends.gave woken × GivenFew 0 old new sends.given
SpentSays writes old new woken (Ready (Ok x)) = ⊥
SpentSays writes old new woken (Ready (Err Transport)) = SendsFew writes 0 old new × Rose old.transport.faults new.transport.faults
SpentSays writes old new woken (Ready (Err error)) = ⊥

-- a pending body, and a turn that waits, left the task to be woken
abbrev pub OnWaits : {E : Type 0} → Fed E → Type 0 → Type 0
OnWaits fed.Waits P = P
OnWaits fed.Moved P = ⊤
OnWaits (fed.Failed error) P = ⊤

abbrev pub OnIdle : {E : Type 0} → Turn E → Type 0 → Type 0
OnIdle Goes P = ⊤
OnIdle Waits P = P
OnIdle (Over result) P = ⊤
