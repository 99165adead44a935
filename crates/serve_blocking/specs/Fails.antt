-- Why a part of an answer wasn't taken.
use Rattle.std.specs.Prelude.{◌≡◌, ◌≤◌, ◌⊎◌, ◌++◌, ℕ, true, false, List, length, ⊤}
use Rattle.model_h1.specs.Answer.{AnswerHead, BodySize, size_of}
use Rattle.model_h1.specs.Event as on
use Rattle.h1_connection.specs.State.{State}
use Rattle.serve_blocking.specs.Acts.{Begins, Sends, Waits, may}
use Rattle.serve_blocking.specs.Served.{Line, Follows, Adds}
use Rattle.serve_blocking.specs.declared.error.HandleError.{HandleError}
use Rattle.serve_blocking.specs.declared.error.HandleError.TheVariants as handle_error

-- It is misplaced only where such a part may not come. The connection is lost, or stalls, only where the peer had to be
-- waited for. Memory may run out.
abbrev pub Fails : Type 0 → Type 0 → HandleError → Type 0
Fails Forbidden Waited handle_error.Misplaced = Forbidden
Fails Forbidden Waited handle_error.Lost = Waited
Fails Forbidden Waited handle_error.Stalled = Waited
Fails Forbidden Waited handle_error.NoMemory = ⊤
Fails Forbidden Waited error = ⊥

-- ---- parts that may not come

-- no answer may begin
abbrev pub NoAnswer : State → Type 0
NoAnswer state = (head : AnswerHead) (size : BodySize) → may state (on.answer head size) ≡ false

-- no piece of an answer's body may come
abbrev pub NoChunk : State → Type 0
NoChunk state = (bytes : List ℕ) → may state (on.chunk bytes) ≡ false

-- ---- where the peer is waited for

-- the write buffer is full
abbrev pub IsFull : State → Type 0
IsFull state = state.settings.h1_write_buffer_size ≤ length state.kept.buffered

-- a body is left that the handler doesn't want and that may be dropped, and the connection doesn't end with the answer
pub record IsLeft (line : Line) : Type 0 where
  pub unwanted : line.wanted ≡ false
  pub stays : line.closes ≡ false
  pub droppable : may line.state on.drop_body ≡ true

-- the last that happened is that the connection was told a moment at which it had waited for the peer for too long
pub record TimesOut (old new : Line) : Type 0 where
  pub mid : Line
  pub moment : ℕ
  pub first : Follows old mid
  pub last : Adds (on.tick moment) on.abandoned mid new

-- once the first of these bytes were handed in, the write buffer was full
pub record FillsUp (bytes : List ℕ) (old new : Line) : Type 0 where
  pub sent : List ℕ
  pub rest : List ℕ
  pub are_first : sent ++ rest ≡ bytes
  pub mid : Line
  pub sends : Sends sent old mid
  pub full : IsFull mid.state
  pub waits : Waits mid new

-- ---- what wasn't taken

-- why no answer was begun
abbrev pub NotBegun : HandleError → Line → Line → Type 0
NotBegun error old new = Fails (NoAnswer new.state) (IsLeft old ⊎ TimesOut old new) error

-- why not all of these bytes were handed in
abbrev pub NotSent : List ℕ → HandleError → Line → Line → Type 0
NotSent bytes error old new = Fails (NoChunk new.state) (FillsUp bytes old new) error

-- the answer was begun, and not all its bytes were handed in
pub record NotSentBehind (head : AnswerHead) (bytes : List ℕ) (error : HandleError) (old new : Line) : Type 0 where
  pub mid : Line
  pub begins : Begins head (size_of (length bytes)) old mid
  pub fails : NotSent bytes error mid new

-- why a whole answer wasn't taken
abbrev pub NotWhole : AnswerHead → List ℕ → HandleError → Line → Line → Type 0
NotWhole head bytes error old new = NotBegun error old new ⊎ NotSentBehind head bytes error old new
