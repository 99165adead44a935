-- What is written over a transport.
use Rattle.std.specs.Prelude.{◌≡◌, ◌≤◌, ◌⊎◌, ℕ, Bool, true, List, [], ◌++◌, length, Result, Ok, Err}
use Rattle.futures.specs.declared.task.Poll.{Poll}
use Rattle.futures.specs.declared.task.Poll.TheVariants.{Ready, Pending}
use Rattle.http_config.specs.Causes.{Rose}
use Rattle.http_bodies.specs.Told.{Grows}
use Rattle.http_transport.specs.Wiring.{Wiring}

-- All was given; the transport failed; it was pending; or it took at least 64 bytes, and the task was woken.
abbrev pub FlushAnswers : {E : Type 0} → Wiring → Wiring → Bool → List ℕ → List ℕ → Poll (Result Unit E) → Type 0
FlushAnswers old new woken gave left (Ready (Ok x)) = left ≡ []
FlushAnswers old new woken gave left (Ready (Err e)) = Rose old.faults new.faults
FlushAnswers old new woken gave left Pending =
    (Rose old.write_waits new.write_waits ⊎ Rose old.flush_waits new.flush_waits) ⊎ ((64 ≤ length gave) × (woken ≡ true))

-- what a flush leaves as it was
pub record OnlyWrote (old new : Wiring) : Type 0 where
  pub received : new.received ≡ old.received
  pub ended : new.ended ≡ old.ended
  pub shut : new.shut ≡ old.shut
  pub reads : new.read_waits ≡ old.read_waits
  pub shuts : new.shut_waits ≡ old.shut_waits

-- what the transport took is the front of what was buffered, and the rest stays
pub record Gave {E : Type 0} (old new : Wiring) (woken : Bool) (before gave after : List ℕ) (result : Poll (Result Unit E)) : Type 0 where
  pub front : before ≡ gave ++ after
  pub sent : Grows old.sent new.sent gave
  pub others : OnlyWrote old new
  pub faults : old.faults ≤ new.faults
  pub writes : old.write_waits ≤ new.write_waits
  pub flushes : old.flush_waits ≤ new.flush_waits
  pub answers : FlushAnswers old new woken gave after result

abbrev pub Flushes : {E : Type 0} → Wiring → Wiring → Bool → List ℕ → List ℕ → Poll (Result Unit E) → Type 0
Flushes old new woken before after result = (gave : List ℕ) × Gave old new woken before gave after result
