-- The report of a hub's trace: a line for each step, and then the bytes that each connection has still to write.
use Rattle.std.specs.Prelude.{ℕ, ◌≡◌, ◌+◌, List, [], ◌∷◌, ◌++◌, codes, decimal}
use Rattle.h1_connection.specs.declared.event.Outcome.{Outcome}
use Rattle.h1_replay.specs.Hex.{hex_word}
use Rattle.h1_replay.specs.Report.{IsOutcomeLine}
use Rattle.rooms.specs.Pair.{Pair}
use Rattle.rooms.specs.declared.driver.HubTrace.{HubTrace}
use Rattle.rooms.specs.declared.event.HubEvent.{HubEvent}
use Rattle.rooms.specs.declared.event.HubEvent.TheVariants.{Open, Feed, Turn}
use Rattle.rooms.specs.declared.event.HubOutcome.{HubOutcome}
use Rattle.rooms.specs.declared.event.HubOutcome.TheVariants.{Opened, Core}

-- the number of the connection to which an event comes, before a blank; an opening comes to none
abbrev pub mover_words : HubEvent → List ℕ
mover_words Open = []
mover_words (Feed i event) = decimal i ++ codes " "
mover_words (Turn i) = decimal i ++ codes " "

-- what came of an event of a connection, as the report of a connection has it
pub record IsMoveLine (event : HubEvent) (outcome : Outcome) (line : List ℕ) : Type 0 where
  pub words : List ℕ
  pub are_words : IsOutcomeLine outcome words
  pub is_line : line ≡ mover_words event ++ words

-- a step: the number of a connection that was opened, or what came of an event of one
abbrev pub IsAnswerLine : HubEvent → HubOutcome → List ℕ → Type 0
IsAnswerLine event (Opened n) line = line ≡ codes "opened " ++ decimal n
IsAnswerLine event (Core given outcome) line = IsMoveLine event outcome line

abbrev pub IsStepLine : Pair → List ℕ → Type 0
IsStepLine step line = IsAnswerLine step.event step.outcome line

-- a line for each step, each ended by a line feed
abbrev pub AreStepLines : List Pair → List ℕ → Type 0
AreStepLines [] text = text ≡ []
AreStepLines (step ∷ steps) text = (line rest : List ℕ) × IsStepLine step line × AreStepLines steps rest × (text ≡ line ++ codes "\n" ++ rest)

-- the bytes that the connection with this number has still to write
abbrev pub buffered_line : ℕ → List ℕ → List ℕ
buffered_line i bytes = decimal i ++ codes " buffered " ++ hex_word bytes ++ codes "\n"

-- such a line for each connection, from this number on
abbrev pub buffered_lines : ℕ → List (List ℕ) → List ℕ
buffered_lines i [] = []
buffered_lines i (bytes ∷ more) = buffered_line i bytes ++ buffered_lines (i + 1) more

-- the whole report
pub record IsReport (trace : HubTrace) (text : List ℕ) : Type 0 where
  pub steps : List ℕ
  pub are_steps : AreStepLines trace.steps.items steps
  pub is_text : text ≡ steps ++ buffered_lines 0 trace.buffered.items
