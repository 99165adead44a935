-- What is done to a job: it is polled, and asked to end, one after the other.
use Rattle.std.specs.Prelude.{◌≡◌, ℕ, List, [], ◌∷◌}
use Rattle.futures.specs.declared.task.Poll.{Poll}
use Rattle.futures.specs.declared.task.Poll.TheVariants.{Ready}
use Rattle.futures.specs.declared.task.context.Context.{Context}

-- what a poll does: the job before, the moment, how the task is left, the answer, and the job after
abbrev pub Polling : Type 0 → Type 0 → Type 1
Polling J O = J → ℕ → Context → Poll O → J → Type 0

-- what it does to ask a job to end
abbrev pub Draining : Type 0 → Type 1
Draining J = J → J → Type 0

-- a poll at this moment, which left the task so and answered this; or the job was asked to end
pub data Act (O : Type 0) : Type 0 where
  poll : (moment : ℕ) (cx : Context) (result : Poll O) → Act O
  drain : Act O

module _ {J O : Type 0} (polled : Polling J O) (drained : Draining J) where
  -- what one of these does
  abbrev pub Does : J → Act O → J → Type 0
  Does a (poll moment cx result) b = polled a moment cx result b
  Does a drain b = drained a b

  -- one after another
  abbrev pub Runs : J → List (Act O) → J → Type 0
  Runs a [] b = b ≡ a
  Runs a (act ∷ acts) b = (m : J) × Does a act m × Runs m acts b

  -- some of them lead from the one to the other
  pub record Leads (a b : J) : Type 0 where
    pub acts : List (Act O)
    pub runs : Runs a acts b

  -- the last of them was a poll at this moment, by which it ended
  abbrev pub EndsBy : J → ℕ → O → J → Type 0
  EndsBy a moment output b = (m : J) × Leads a m × ((cx : Context) × polled m moment cx (Ready output) b)

  -- nothing else was done to it since it was new, over a fresh connection
  pub record Lives (begun can_poll : J → Type 0) (job : J) : Type 0 where
    pub first : J
    pub new : begun first
    pub leads : Leads first job
    pub may_poll : can_poll job

-- a job that lives, as a clause sees it
pub record Living (J : Type 0) : Type 0 where
  pub job : J
