-- A connection as its contracts see it: its settings, what the machine keeps, and which of the bytes that wait are body bytes.
use Rattle.std.specs.Prelude.{◌≡◌, ◌<◌, ℕ, List, [], ◌∷◌, length, take, true, IsTrue, ⊤}
use Rattle.http_config.specs.Config.{Settings}
use Rattle.model_h1.specs.Runs.{Run}
use Rattle.model_h1.specs.Event as on
use Rattle.model_h1.specs.Sums as sums
use Rattle.model_h1.specs.Trace.{IsOutcome}
use Rattle.model_state.specs.Kept.{Kept, fresh}
use Rattle.model_state.specs.Local.{allowed_by}
use Rattle.model_state.specs.StandsFor.{StandsFor}
use Rattle.model_state.specs.Marks.{buffered_runs}
use Rattle.model_state.specs.Ahead.{IsAhead}
use Rattle.h1_connection.specs.EventMeaning.{setting_of}
use Rattle.h1_connection.specs.Heads.{NeedsNoMemory}
use Rattle.h1_connection.specs.Given.{next_allowed, frame_allowed}
use Rattle.h1_connection.specs.Frames.{is_refused, sends_nothing}
use Rattle.h1_connection.specs.Pulls.{IsLightPull}
use Rattle.h1_connection.specs.Ticks.{IsQuietTick}
use Rattle.h1_connection.specs.Unsent.{SendsNoPiece, SendsNoEnd}

pub record State : Type 0 where
  pub settings : Settings
  pub kept : Kept
  pub marks : List Run
  pub ahead : ℕ

-- a connection to which nothing came
abbrev pub fresh_state : Settings → State
fresh_state settings = record { settings = settings; kept = fresh; marks = []; ahead = 0 }

-- the event is allowed
abbrev pub IsAllowed : State → on.Event → Type 0
IsAllowed state event = IsTrue (allowed_by (setting_of state.settings) state.kept event)

-- the next head may be asked for by the call of its own
abbrev pub IsNextAllowed : State → Type 0
IsNextAllowed state = IsTrue (next_allowed (setting_of state.settings) state.kept)

-- the next frame may be asked for
abbrev pub IsFrameAllowed : State → Type 0
IsFrameAllowed state = IsTrue (frame_allowed (setting_of state.settings) state.kept)

-- there is room for a piece of an answer's body
abbrev pub HasWriteRoom : State → Type 0
HasWriteRoom state = length state.kept.buffered < state.settings.h1_write_buffer_size

-- the connection stands for the trace
abbrev pub Stands : State → List sums.Step → Type 0
Stands state trace = StandsFor (setting_of state.settings) state.kept trace

-- the body bytes among those that wait are the trace's, piece by piece
abbrev pub IsMarked : State → List sums.Step → Type 0
IsMarked state trace = state.marks ≡ buffered_runs (setting_of state.settings) trace

-- as many heads stand ahead as are to be behind the trace
abbrev pub IsCounted : State → List sums.Step → Type 0
IsCounted state trace = IsAhead (setting_of state.settings) trace state.ahead

-- Behind each trace that the connection stands for, the table's outcome is such a one, and the connection stands for
-- the longer trace, also with the places of the body bytes among those that wait, and with the heads that stand ahead.
abbrev pub GoesOn : State → on.Event → (on.Outcome → Type 0) → State → Type 0
GoesOn state event Says after =
    (trace : List sums.Step) → Stands state trace
    → (out : on.Outcome) × Says out × IsOutcome (setting_of state.settings) trace event out
    × Stands after (record { event = event; outcome = out } ∷ trace)
    × (IsMarked state trace → IsMarked after (record { event = event; outcome = out } ∷ trace))
    × (IsCounted state trace → IsCounted after (record { event = event; outcome = out } ∷ trace))

-- The event takes no memory: the input's end, a drop, a drain, an answer's body that fails; a next one that closes, or
-- finds no head and room for more bytes; a pull that tells the end or a fault, or gives nothing; a piece or an end of
-- which nothing goes out; a write of nothing; a tick but one that answers a head that doesn't come; an upgrade that is
-- refused; a message of which nothing is sent.
abbrev pub TakesNoMemory : State → on.Event → Type 0
TakesNoMemory state on.eof = ⊤
TakesNoMemory state on.drop_body = ⊤
TakesNoMemory state on.body_error = ⊤
TakesNoMemory state on.drain = ⊤
TakesNoMemory state on.next = NeedsNoMemory (setting_of state.settings) state.kept
TakesNoMemory state on.pull = IsLightPull state.kept
TakesNoMemory state (on.chunk bytes) = SendsNoPiece state.kept bytes
TakesNoMemory state on.body_end = SendsNoEnd state.kept
TakesNoMemory state (on.write limit) = length (take limit state.kept.buffered) ≡ 0
TakesNoMemory state (on.tick ms) = IsQuietTick (setting_of state.settings) state.kept ms
TakesNoMemory state (on.accept limit) = is_refused state.kept ≡ true
TakesNoMemory state (on.send message) = sends_nothing state.kept message ≡ true
TakesNoMemory state event = ⊥

-- the outcome is this one
abbrev pub Is : on.Outcome → on.Outcome → Type 0
Is outcome out = out ≡ outcome

-- Bytes that came from a source: they are the event of their read, which took them all. Of none there is no event.
abbrev pub ReadsIn : State → List ℕ → State → Type 0
ReadsIn state [] after = after ≡ state
ReadsIn state (b ∷ bytes) after = GoesOn state (on.read (b ∷ bytes)) (Is (on.took (length (b ∷ bytes)))) after
