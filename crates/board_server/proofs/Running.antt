-- What a run of the program comes to, by its steps.
use Rattle.std.proofs.Common.{◌≡◌, ◌≤◌, inl, inr, ℕ, Bool, false, true, Option, Some, None, List, refl, Result, Ok, Err, arith}
use Rattle.std.specs.Result.{is_err}
use Rattle.http_config.specs.Causes.{Rose, counted}
use Rattle.http_config.specs.Config.{Settings}
use Rattle.http_transport.specs.Opening.{Opening, OpenSays}
use Rattle.http_transport.specs.Wiring.{Wiring}
use Rattle.h1_connection.specs.Steps.{Pair}
use Rattle.board_server.specs.declared.visit.Report.{Report}
use Rattle.board_server.specs.declared.visit.ServeFault.{ServeFault}
use Rattle.board_server.specs.declared.visit.ServeFault.TheVariants.{Acceptor, Unlike, NoMemory}
use Rattle.board_server.specs.Reports.{SaysRan}
use Rattle.board_server.specs.ServerRuns.{SaysAnswer, SaysTold, reported, usage, acceptor_fault, unlike, no_memory}
use Rattle.board_server.specs.Texts.{usage_text, acceptor_text, memory_text, unlike_text}
use Rattle.board_server.specs.Words.{AreWords, IsCall}
use Rattle.board_server.specs.Writing.{Says}

rises_on : (a b c : ℕ) → a ≤ b → counted b ≤ c → counted a ≤ c
rises_on a b c within rose = omega (arith, within, rose)

-- the acceptor failed where it answered an error
pub acceptor_rose : {E : Type 0} (was now : Opening) (r : Result Unit E) → OpenSays was now r → is_err r ≡ true → Rose was.faults now.faults
acceptor_rose was now (Ok x) says is = absurd (cc is)
acceptor_rose was now (Err e) says is = says.failed e refl

-- and was opened where it answered none
pub acceptor_opens : {E : Type 0} (was now : Opening) (r : Result Unit E) → OpenSays was now r → is_err r ≡ false → OpenSays {E = Unit} was now (Ok tt)
acceptor_opens was now (Ok x) says is = record { given = says.given; ended = says.ended; never_falls = says.never_falls; failed = λ e same. absurd (cc same) }
acceptor_opens was now (Err e) says is = absurd (cc is)

module _ {W L M : Type 0} (words : List (List ℕ)) (was now : Opening) (answer : ℕ) (before after : Option (List ℕ)) (faults later : ℕ) where
  -- the words were others
  pub usage_said : ((port most polls : ℕ) → ¬ AreWords words port most polls) → now ≡ was → Says answer 1 usage_text before after faults later
      → SaysAnswer {W = W} {L = L} {M = M} words None was now answer before after faults later
  usage_said none same says = (1, usage_text, usage (λ call. none call.0 call.1 call.2 call.3) refl same refl refl, says)

  -- the acceptor wasn't opened
  pub closed_said : IsCall words → Rose was.faults now.faults → Says answer 2 acceptor_text before after faults later → SaysAnswer {W = W} {L = L} {M = M} words None was now answer before after faults later
  closed_said call rose says = (2, acceptor_text, acceptor_fault call rose refl refl, says)

  -- what was answered was told
  pub told_said : (settings : Settings) (polls : ℕ) (may_give : ℕ → Bool) (wiring : W → Wiring) (noted : L → Option (List Pair)) (most : ℕ) (opened : Opening) (end : Result (Report W L M) (ServeFault W L M))
      → IsCall words → was.faults ≤ opened.faults → SaysRan settings polls may_give wiring noted most opened now end → SaysTold answer end before after faults later
      → SaysAnswer words (Some end) was now answer before after faults later
  told_said settings polls may_give wiring noted most opened (Ok report) call rises ran (inl w) = (0, w.0, reported report call refl w.1 refl, w.2)
  told_said settings polls may_give wiring noted most opened (Ok report) call rises ran (inr says) = (7, memory_text, no_memory (Ok report) call refl refl refl, says)
  told_said settings polls may_give wiring noted most opened (Err (Acceptor report)) call rises ran says =
      (2, acceptor_text, acceptor_fault call (rises_on was.faults opened.faults now.faults rises ran.3) refl refl, says)
  told_said settings polls may_give wiring noted most opened (Err (Unlike differing)) call rises ran (inl says) =
      (3, unlike_text differing.unlike.number, unlike differing call refl refl refl, says)
  told_said settings polls may_give wiring noted most opened (Err (Unlike differing)) call rises ran (inr says) =
      (7, memory_text, no_memory (Err (Unlike differing)) call refl refl refl, says)
  told_said settings polls may_give wiring noted most opened (Err NoMemory) call rises ran says = (7, memory_text, no_memory (Err NoMemory) call refl refl refl, says)
