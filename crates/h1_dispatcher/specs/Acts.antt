-- What is done to a dispatcher: it is polled, and asked to drain, one after the other.
use Rattle.std.specs.Prelude.{◌≡◌, ℕ, List, [], ◌∷◌, ⊤, Result, Err}
use Rattle.std.specs.List.{AllByRecursion}
use Rattle.futures.specs.declared.task.Poll.{Poll}
use Rattle.futures.specs.declared.task.Poll.TheVariants.{Ready}
use Rattle.futures.specs.declared.task.context.Context.{Context}
use Rattle.http_types.specs.declared.error.DispatchError.{DispatchError}
use Rattle.http_types.specs.declared.error.DispatchError.TheVariants.{NoMemory}
use Rattle.h1_dispatcher.specs.View.{View, with_drain}
use Rattle.h1_dispatcher.specs.Steps.{Step, IsRun}
use Rattle.h1_dispatcher.specs.Replies.{HandsOn}
use Rattle.h1_dispatcher.specs.Polls.{PollSays}
use Rattle.h1_dispatcher.specs.Upgrades.{DecidesNone}
use Rattle.h1_dispatcher.specs.Traces.{AllNoted}

-- a poll at this moment, which left the task so and answered this; or it was asked to drain
pub data Act : Type 0 where
  polled : (moment : ℕ) → (cx : Context) → (result : Poll (Result Unit DispatchError)) → Act
  asked : Act

-- what its contract says of it
abbrev pub ActSays : View → Act → View → Type 0
ActSays v (polled moment cx result) w = PollSays v w cx moment result
ActSays v asked w = w ≡ with_drain v

-- one after another
abbrev pub ActsSay : View → List Act → View → Type 0
ActsSay v [] w = w ≡ v
ActsSay v (act ∷ acts) w = (u : View) × ActSays v act u × ActsSay u acts w

-- memory didn't run out
abbrev pub HasMemory : Act → Type 0
HasMemory (polled moment cx result) = ¬ (result ≡ Ready (Err NoMemory))
HasMemory asked = ⊤

abbrev pub AllHaveMemory : List Act → Type 0
AllHaveMemory acts = AllByRecursion HasMemory acts

-- All of them are one run of steps. Memory runs out in none of these, unless a poll answered so. Nor is an answer of the
-- service left at hand that wasn't handed on, unless a poll answered so, or one was at hand before. In none of these steps
-- requests are asked to be held back, or is anything decided about one that is.
pub record AreOneRun (v : View) (acts : List Act) (w : View) : Type 0 where
  pub steps : List Step
  pub run : IsRun v steps w
  pub noted : AllHaveMemory acts → AllNoted steps
  pub handed : AllHaveMemory acts → HandsOn v w
  pub undecided : AllByRecursion DecidesNone steps
