-- What happens to a table, one turn after another.
use Rattle.std.specs.Prelude.{ℕ, List, [], ◌∷◌, ◌++◌, ◌==◌, ◌≡◌, if◌then◌else◌}
use Rattle.model_h1.specs.Answer.{AnswerHead, size_of}
use Rattle.model_h1.specs.Event as on
use Rattle.h1_connection.specs.State.{State, GoesOn}
use Rattle.h1_connection.specs.EventMeaning.{SaysOutcome}
use Rattle.h1_connection.specs.declared.event.Outcome.{Outcome}
use Rattle.h1_connection.specs.declared.event.Outcome.TheVariants as out
use Rattle.board.specs.Views.{Kept}
use Rattle.board.specs.Table.{Seated, Tabled, Moves, Steps, Handles, Fails, fresh_seat}

-- What one call does, where it changes a table: a connection takes in an event, with what that was answered; a
-- connection is opened; the open request of a connection is answered so, or it isn't, since there was no memory.
pub data Turn : Type 0 where
  stepped : ℕ → on.Event → Outcome → Turn
  opened : Turn
  handled : ℕ → AnswerHead → Turn
  ran_out : ℕ → Turn

-- there is one connection more, with a pass of its own; the others stay as they are, and the journal and the settings
pub record Opens (before after : Tabled) : Type 0 where
  pub seats : after.seats ≡ before.seats ++ fresh_seat before.settings before.board.passes.next ∷ []
  pub journal : after.board.journal ≡ before.board.journal
  pub settings : after.settings ≡ before.settings

-- the open request is answered by this head
abbrev pub HandlesBy : AnswerHead → Kept → Kept → Seated → Seated → Type 0
HandlesBy answer board board' was now = (handles : Handles board board' was now) × (handles.answer ≡ answer)

-- the turn leads from one table to the other
abbrev pub Turns : Tabled → Turn → Tabled → Type 0
Turns before (stepped id event outcome) after = Moves before id (Steps event outcome) after × (after.board ≡ before.board)
Turns before opened after = Opens before after
Turns before (handled id answer) after = Moves before id (HandlesBy answer before.board after.board) after
Turns before (ran_out id) after = Moves before id (Fails before.board after.board) after

-- each turn leads to the next table
abbrev pub Runs : Tabled → List Turn → Tabled → Type 0
Runs before [] after = after ≡ before
Runs before (turn ∷ turns) after = (next : Tabled) × Turns before turn next × Runs next turns after

-- ---- what comes to one connection

-- an event, with what it was answered
pub record Taken : Type 0 where
  pub event : on.Event
  pub outcome : Outcome

abbrev pub taken : on.Event → Outcome → Taken
taken event outcome = record { event = event; outcome = outcome }

-- what the connection of this number takes in by a turn: its own event, or the answer to its own request
abbrev pub own_part : ℕ → Turn → List Taken
own_part id (stepped n event outcome) = if n == id then taken event outcome ∷ [] else []
own_part id opened = []
own_part id (handled n answer) = if n == id then taken (on.answer answer (size_of 0)) out.Done ∷ [] else []
own_part id (ran_out _) = []

-- and by all turns, in order
abbrev pub own_events : ℕ → List Turn → List Taken
own_events id [] = []
own_events id (turn ∷ turns) = own_part id turn ++ own_events id turns

-- The connection takes in these events, in order: each is answered so, as the tables do over what the connection stands
-- for, and what it stands for is longer by that. Its settings stay.
abbrev pub TakesIn : State → List Taken → State → Type 0
TakesIn was [] now = now ≡ was
TakesIn was (own ∷ owns) now =
    (next : State) × GoesOn was own.event (SaysOutcome own.outcome) next × (next.settings ≡ was.settings) × TakesIn next owns now
