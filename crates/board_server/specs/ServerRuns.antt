-- What a run of the server came to.
use Rattle.std.specs.Prelude.{◌≡◌, ◌⊎◌, ℕ, Bool, Option, Some, None, List, ⊤, Result, Ok, Err}
use Rattle.http_config.specs.Causes.{Rose}
use Rattle.http_config.specs.Config.{default_settings}
use Rattle.http_transport.specs.Opening.{Opening, OpenSays}
use Rattle.http_transport.specs.Wiring.{Wiring}
use Rattle.h1_connection.specs.Steps.{Pair}
use Rattle.board.specs.declared.command.Entry.{Entry}
use Rattle.board_server.specs.Reports.{SaysRan}
use Rattle.board_server.specs.Texts.{IsReportText, usage_text, acceptor_text, memory_text, unlike_text}
use Rattle.board_server.specs.Words.{AreWords, IsCall}
use Rattle.board_server.specs.Writing.{Says}
use Rattle.board_server.specs.declared.visit.Report.{Report}
use Rattle.board_server.specs.declared.visit.Differing.{Differing}
use Rattle.board_server.specs.declared.visit.ServeFault.{ServeFault}
use Rattle.board_server.specs.declared.visit.ServeFault.TheVariants.{Acceptor, Unlike, NoMemory}

-- the report of a journal was written, or that there was no memory for it, or the sink failed
abbrev pub SaysReport : List Entry → ℕ → Option (List ℕ) → Option (List ℕ) → ℕ → ℕ → Type 0
SaysReport journal answer before after faults later =
    ((text : List ℕ) × IsReportText journal text × Says answer 0 text before after faults later)
    ⊎ Says answer 7 memory_text before after faults later

-- the words were read, the acceptor was opened, and its connections were served, at most so many with so many polls each
pub record HasRun {W L M : Type 0} (words : List (List ℕ)) (may_give : ℕ → Bool) (wiring : W → Wiring) (noted : L → Option (List Pair)) (was now : Opening) (end : Result (Report W L M) (ServeFault W L M)) : Type 0 where
  pub port : ℕ
  pub most : ℕ
  pub polls : ℕ
  pub words_are : AreWords words port most polls
  pub opened : Opening
  pub opens : OpenSays {E = Unit} was opened (Ok tt)
  pub says : SaysRan default_settings polls may_give wiring noted most opened now end

abbrev pub SaysEnd : {W L M : Type 0} → List (List ℕ) → (ℕ → Bool) → (W → Wiring) → (L → Option (List Pair)) → Opening → Opening → Option (Result (Report W L M) (ServeFault W L M)) → Type 0
SaysEnd words may_give wiring noted was now None = ⊤
SaysEnd words may_give wiring noted was now (Some end) = HasRun words may_give wiring noted was now end

-- Why the program has its status and writes its text: the report of a board, which was closed with all its passes; other words,
-- and then the acceptor wasn't asked; an acceptor that failed; a board whose journal isn't that of the passes; or no memory.
pub data IsAnswer {W L M : Type 0} (words : List (List ℕ)) (end : Option (Result (Report W L M) (ServeFault W L M))) (was now : Opening) (status : ℕ) (text : List ℕ) : Type 0 where
  reported : (report : Report W L M) → IsCall words → end ≡ Some (Ok report) → IsReportText report.board.journal text → status ≡ 0 → IsAnswer words end was now status text
  usage : ¬ IsCall words → end ≡ None → now ≡ was → text ≡ usage_text → status ≡ 1 → IsAnswer words end was now status text
  acceptor_fault : IsCall words → Rose was.faults now.faults → text ≡ acceptor_text → status ≡ 2 → IsAnswer words end was now status text
  unlike : (differing : Differing M) → IsCall words → end ≡ Some (Err (Unlike differing)) → text ≡ unlike_text differing.unlike.number → status ≡ 3 → IsAnswer words end was now status text
  no_memory : (given : Result (Report W L M) (ServeFault W L M)) → IsCall words → end ≡ Some given → text ≡ memory_text → status ≡ 7 → IsAnswer words end was now status text

-- the text of the answer was written whole, or the sink failed
abbrev pub SaysAnswer : {W L M : Type 0} → List (List ℕ) → Option (Result (Report W L M) (ServeFault W L M)) → Opening → Opening → ℕ → Option (List ℕ) → Option (List ℕ) → ℕ → ℕ → Type 0
SaysAnswer words end was now answer before after faults later =
    (status : ℕ) × (text : List ℕ) × IsAnswer words end was now status text × Says answer status text before after faults later

-- the same of what was answered where the connections were served
abbrev pub SaysTold : {W L M : Type 0} → ℕ → Result (Report W L M) (ServeFault W L M) → Option (List ℕ) → Option (List ℕ) → ℕ → ℕ → Type 0
SaysTold answer (Ok report) before after faults later = SaysReport report.board.journal answer before after faults later
SaysTold answer (Err (Acceptor report)) before after faults later = Says answer 2 acceptor_text before after faults later
SaysTold answer (Err (Unlike differing)) before after faults later =
    Says answer 3 (unlike_text differing.unlike.number) before after faults later ⊎ Says answer 7 memory_text before after faults later
SaysTold answer (Err NoMemory) before after faults later = Says answer 7 memory_text before after faults later
