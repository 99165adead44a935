-- Why a call may answer a code other than 0.
use Rattle.std.specs.Prelude.{◌≡◌, ◌≤◌, ◌<◌, ℕ, List, false, length, ⊤}
use Rattle.model_h1.specs.Answer as answers
use Rattle.model_h1.specs.Event as on
use Rattle.model_h1.specs.Frame.{Message}
use Rattle.model_state.specs.Local.{allowed_by}
use Rattle.model_client.specs.ClientEvent as asking
use Rattle.model_client.specs.ClientKept.{client_allows}
use Rattle.h1_connection.specs.EventMeaning.{setting_of}
use Rattle.h1_connection.specs.Given.{next_allowed, frame_allowed}
use Rattle.h1_connection.specs.State as server
use Rattle.h1_client.specs.Answers as answered
use Rattle.h1_client.specs.Bodies as bodies
use Rattle.h1_client.specs.ClientMeaning as meaning
use Rattle.h1_client.specs.Requests as requests
use Rattle.h1_client.specs.State as client
use Rattle.raspcream.specs.Named.{NamesRequest, IsNoAnswer, IsRequestText, IsSendable}
use Rattle.raspcream.specs.Numbers.{size_said}
use Rattle.raspcream.specs.declared.op.Op.{Op}
use Rattle.raspcream.specs.declared.op.Op.TheVariants as asks
use Rattle.raspcream.specs.declared.reply.Failure.{Failure}
use Rattle.raspcream.specs.declared.reply.Failure.TheVariants.{NoMemory, Misplaced, Invalid}

-- what has to hold for each failure
abbrev pub OneOf : Type 0 → Type 0 → Type 0 → Failure → Type 0
OneOf Wanting Barred Wrong NoMemory = Wanting
OneOf Wanting Barred Wrong Misplaced = Barred
OneOf Wanting Barred Wrong Invalid = Wrong

-- memory ran out, or what is handed in is wrong, and then this holds
abbrev pub FailsBy : Type 0 → Failure → Type 0
FailsBy Wrong why = OneOf ⊤ ⊥ Wrong why

-- ---- a server's side

-- the event may not come
abbrev pub IsBarred : server.State → on.Event → Type 0
IsBarred s event = allowed_by (setting_of s.settings) s.kept event ≡ false

-- the call's event may not come now; what may always be asked is never misplaced
abbrev pub IsMisplaced : Op → ℕ → List ℕ → server.State → Type 0
IsMisplaced asks.Read number input s = IsBarred s (on.read input)
IsMisplaced asks.Eof number input s = IsBarred s on.eof
IsMisplaced asks.Next number input s = next_allowed (setting_of s.settings) s.kept ≡ false
IsMisplaced asks.Pull number input s = IsBarred s on.drop_body
IsMisplaced asks.DropBody number input s = IsBarred s on.drop_body
IsMisplaced asks.Continue number input s = IsBarred s on.send_continue
IsMisplaced asks.Head number input s = (head : answers.AnswerHead) (size : answers.BodySize) → IsBarred s (on.answer head size)
IsMisplaced asks.Chunk number input s = IsBarred s (on.chunk input)
IsMisplaced asks.End number input s = IsBarred s on.body_end
IsMisplaced asks.Fail number input s = IsBarred s on.body_error
IsMisplaced asks.Front number input s = ⊥
IsMisplaced asks.Advance number input s = IsBarred s (on.write number)
IsMisplaced asks.Tick number input s = IsBarred s (on.tick number)
IsMisplaced asks.Drain number input s = IsBarred s on.drain
IsMisplaced asks.Accept number input s = IsBarred s (on.accept number)
IsMisplaced asks.Frame number input s = frame_allowed (setting_of s.settings) s.kept ≡ false
IsMisplaced asks.Send number input s = (message : Message) → IsBarred s (on.send message)
IsMisplaced asks.State number input s = ⊥
IsMisplaced asks.Held number input s = ⊥
IsMisplaced asks.Ahead number input s = ⊥

-- The event isn't one that takes no memory. A head and a message are copied first; heads that stand ahead are read to be counted.
abbrev pub MayWant : server.State → on.Event → Type 0
MayWant s event = server.TakesNoMemory s event → ⊥

abbrev pub WantsMemory : Op → ℕ → List ℕ → server.State → Type 0
WantsMemory asks.Read number input s = ⊤
WantsMemory asks.Eof number input s = ⊥
WantsMemory asks.Next number input s = MayWant s on.next
WantsMemory asks.Pull number input s = MayWant s on.pull
WantsMemory asks.DropBody number input s = ⊥
WantsMemory asks.Continue number input s = ⊤
WantsMemory asks.Head number input s = ⊤
WantsMemory asks.Chunk number input s = MayWant s (on.chunk input)
WantsMemory asks.End number input s = MayWant s on.body_end
WantsMemory asks.Fail number input s = ⊥
WantsMemory asks.Front number input s = ⊥
WantsMemory asks.Advance number input s = ⊥
WantsMemory asks.Tick number input s = MayWant s (on.tick number)
WantsMemory asks.Drain number input s = ⊥
WantsMemory asks.Accept number input s = MayWant s (on.accept number)
WantsMemory asks.Frame number input s = MayWant s on.pull
WantsMemory asks.Send number input s = ⊤
WantsMemory asks.State number input s = ⊥
WantsMemory asks.Held number input s = ⊥
WantsMemory asks.Ahead number input s = s.ahead ≡ 0 → ⊥

-- An argument is wrong: of a head its status or its lines, of a message its opcode, its code or its text; and more can't be
-- written than waits.
abbrev pub IsWrong : Op → ℕ → ℕ → List ℕ → server.State → Type 0
IsWrong asks.Read arg number input s = ⊥
IsWrong asks.Eof arg number input s = ⊥
IsWrong asks.Next arg number input s = ⊥
IsWrong asks.Pull arg number input s = ⊥
IsWrong asks.DropBody arg number input s = ⊥
IsWrong asks.Continue arg number input s = ⊥
IsWrong asks.Head arg number input s = IsNoAnswer arg input
IsWrong asks.Chunk arg number input s = ⊥
IsWrong asks.End arg number input s = ⊥
IsWrong asks.Fail arg number input s = ⊥
IsWrong asks.Front arg number input s = ⊥
IsWrong asks.Advance arg number input s = length s.kept.buffered < number
IsWrong asks.Tick arg number input s = ⊥
IsWrong asks.Drain arg number input s = ⊥
IsWrong asks.Accept arg number input s = ⊥
IsWrong asks.Frame arg number input s = ⊥
IsWrong asks.Send arg number input s = IsSendable arg number input → ⊥
IsWrong asks.State arg number input s = ⊥
IsWrong asks.Held arg number input s = ⊥
IsWrong asks.Ahead arg number input s = ⊥

abbrev pub MayRefuse : Op → ℕ → ℕ → List ℕ → server.State → Failure → Type 0
MayRefuse asked arg number input s = OneOf (WantsMemory asked number input s) (IsMisplaced asked number input s) (IsWrong asked arg number input s)

-- ---- a client's side

abbrev pub IsOut : client.State → asking.ClientEvent → Type 0
IsOut c event = client_allows (meaning.setting_of c.settings) c.kept event ≡ false

abbrev pub IsMisasked : Op → ℕ → ℕ → List ℕ → client.State → Type 0
IsMisasked asks.Read arg number input c = IsOut c (asking.read input)
IsMisasked asks.Eof arg number input c = IsOut c asking.eof
IsMisasked asks.Next arg number input c = IsOut c asking.next
IsMisasked asks.Pull arg number input c = IsOut c asking.pull
IsMisasked asks.DropBody arg number input c = IsOut c asking.drop_body
IsMisasked asks.Continue arg number input c = ⊥
IsMisasked asks.Head arg number input c =
    (request : asking.ClientRequest) × NamesRequest arg input request × IsOut c (asking.ask request (size_said number))
IsMisasked asks.Chunk arg number input c = IsOut c (asking.chunk input)
IsMisasked asks.End arg number input c = IsOut c asking.body_end
IsMisasked asks.Fail arg number input c = IsOut c asking.body_error
IsMisasked asks.Front arg number input c = ⊥
IsMisasked asks.Advance arg number input c = IsOut c (asking.write number)
IsMisasked asks.Tick arg number input c = IsOut c (asking.tick number)
IsMisasked asks.Drain arg number input c = ⊥
IsMisasked asks.Accept arg number input c = ⊥
IsMisasked asks.Frame arg number input c = ⊥
IsMisasked asks.Send arg number input c = ⊥
IsMisasked asks.State arg number input c = ⊥
IsMisasked asks.Held arg number input c = ⊥
IsMisasked asks.Ahead arg number input c = ⊥

abbrev pub AsksForMemory : Op → List ℕ → client.State → Type 0
AsksForMemory asks.Read input c = ⊤
AsksForMemory asks.Eof input c = ⊥
AsksForMemory asks.Next input c = answered.NeedsNoMemory c.kept → ⊥
AsksForMemory asks.Pull input c = bodies.IsLightPull c.kept → ⊥
AsksForMemory asks.DropBody input c = ⊥
AsksForMemory asks.Continue input c = ⊥
AsksForMemory asks.Head input c = ⊤
AsksForMemory asks.Chunk input c = requests.SendsNoPiece c.kept.sending input → ⊥
AsksForMemory asks.End input c = requests.SendsNoEnd c.kept.sending → ⊥
AsksForMemory asks.Fail input c = ⊥
AsksForMemory asks.Front input c = ⊥
AsksForMemory asks.Advance input c = ⊥
AsksForMemory asks.Tick input c = ⊥
AsksForMemory asks.Drain input c = ⊥
AsksForMemory asks.Accept input c = ⊥
AsksForMemory asks.Frame input c = ⊥
AsksForMemory asks.Send input c = ⊥
AsksForMemory asks.State input c = ⊥
AsksForMemory asks.Held input c = ⊥
AsksForMemory asks.Ahead input c = ⊥

-- An argument is wrong: of a head its method, its target or its lines; more can't be written than waits; and what a server
-- alone may be asked is wrong of a client.
abbrev pub IsWronglyAsked : Op → ℕ → List ℕ → client.State → Type 0
IsWronglyAsked asks.Read number input c = ⊥
IsWronglyAsked asks.Eof number input c = ⊥
IsWronglyAsked asks.Next number input c = ⊥
IsWronglyAsked asks.Pull number input c = ⊥
IsWronglyAsked asks.DropBody number input c = ⊥
IsWronglyAsked asks.Continue number input c = ⊤
IsWronglyAsked asks.Head number input c = IsRequestText input → ⊥
IsWronglyAsked asks.Chunk number input c = ⊥
IsWronglyAsked asks.End number input c = ⊥
IsWronglyAsked asks.Fail number input c = ⊥
IsWronglyAsked asks.Front number input c = ⊥
IsWronglyAsked asks.Advance number input c = length c.kept.buffered < number
IsWronglyAsked asks.Tick number input c = ⊥
IsWronglyAsked asks.Drain number input c = ⊤
IsWronglyAsked asks.Accept number input c = ⊤
IsWronglyAsked asks.Frame number input c = ⊤
IsWronglyAsked asks.Send number input c = ⊤
IsWronglyAsked asks.State number input c = ⊥
IsWronglyAsked asks.Held number input c = ⊥
IsWronglyAsked asks.Ahead number input c = ⊤

abbrev pub MayDecline : Op → ℕ → ℕ → List ℕ → client.State → Failure → Type 0
MayDecline asked arg number input c = OneOf (AsksForMemory asked input c) (IsMisasked asked arg number input c) (IsWronglyAsked asked number input c)

-- ---- the code

-- each code has its reason
pub record IsCode (MayFail : Failure → Type 0) (code : ℕ) : Type 0 where
  pub known : code ≤ 3
  pub wanting : code ≡ 1 → MayFail NoMemory
  pub misplaced : code ≡ 2 → MayFail Misplaced
  pub invalid : code ≡ 3 → MayFail Invalid
