-- What a report says of a board and of the connections that called it.
use Rattle.std.specs.Prelude.{◌≡◌, ◌≤◌, ◌⊎◌, ℕ, Bool, Option, List, length, vec_len, IsTrue, Result, Ok, Err}
use Rattle.std.specs.List.{AllByRecursion, sum_by}
use Rattle.http_config.specs.Causes.{Rose}
use Rattle.http_config.specs.Config.{Settings}
use Rattle.http_transport.specs.Opening.{Opening}
use Rattle.http_transport.specs.Wiring.{Wiring}
use Rattle.h1_connection.specs.Steps.{Pair}
use Rattle.board.specs.declared.command.Entry.{Entry}
use Rattle.board.specs.Journal.{IsRight, of_pass}
use Rattle.board.specs.Views.{Held, Differs}
use Rattle.board_server.specs.Visits.{WasServed, counted_on}
use Rattle.board_server.specs.declared.visit.Visit.{Visit}
use Rattle.board_server.specs.declared.visit.Report.{Report}
use Rattle.board_server.specs.declared.visit.ServeFault.{ServeFault}
use Rattle.board_server.specs.declared.visit.ServeFault.TheVariants.{Acceptor, Unlike, NoMemory}

-- the entries that the journal has of this number
abbrev pub own_pass : ℕ → List Entry → Held
own_pass number journal = record { number = number; entries = of_pass number journal }

-- a connection was served, and the journal has as many entries of its number as it made calls: those by which its pass grew
pub record IsVisit {W L : Type 0} (settings : Settings) (polls : ℕ) (may_give : ℕ → Bool) (wiring : W → Wiring) (noted : L → Option (List Pair)) (journal : List Entry) (visit : Visit W L) : Type 0 where
  pub calls : visit.calls ≡ length (of_pass visit.number journal)
  pub served : WasServed settings polls may_give (wiring visit.transport) (noted visit.recorder) (own_pass visit.number journal) visit.end

-- The journal is right, it has as many entries as the visits made calls, and each visit is one of its own entries.
pub record IsReport {W L : Type 0} (settings : Settings) (polls : ℕ) (may_give : ℕ → Bool) (wiring : W → Wiring) (noted : L → Option (List Pair)) (journal : List Entry) (visits : List (Visit W L)) : Type 0 where
  pub right : IsRight journal
  pub whole : length journal ≡ sum_by (λ v. v.calls) visits
  pub each : AllByRecursion (IsVisit settings polls may_give wiring noted journal) visits

-- What came of an acceptor's connections, of which at most so many were taken: there is one visit for each, also where the acceptor
-- failed, and it failed only with a counted fault; or some pass's entries aren't the journal's; or there was no memory, and
-- then none was taken.
abbrev pub SaysRan : {W L M : Type 0} → Settings → ℕ → (ℕ → Bool) → (W → Wiring) → (L → Option (List Pair)) → ℕ → Opening → Opening → Result (Report W L M) (ServeFault W L M) → Type 0
SaysRan settings polls may_give wiring noted most was now (Ok report) =
    IsReport settings polls may_give wiring noted report.board.journal report.visits.items
    × (now.given ≡ counted_on (vec_len report.visits) was.given)
    × (vec_len report.visits ≤ most)
    × (IsTrue now.ended ⊎ (vec_len report.visits ≡ most))
SaysRan settings polls may_give wiring noted most was now (Err (Acceptor report)) =
    IsReport settings polls may_give wiring noted report.board.journal report.visits.items
    × (now.given ≡ counted_on (vec_len report.visits) was.given)
    × (vec_len report.visits ≤ most)
    × Rose was.faults now.faults
SaysRan settings polls may_give wiring noted most was now (Err (Unlike differing)) =
    Differs differing.unlike.board.journal differing.unlike.passes.items differing.unlike.number
SaysRan settings polls may_give wiring noted most was now (Err NoMemory) = now ≡ was
