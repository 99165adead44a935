-- What a source of a payload gives.
use Rattle.std.specs.Prelude.{◌≡◌, ◌≤◌, ℕ, Bool, true, Option, Some, None, List, [], ◌∷◌, ⊤, Result, Ok, Err}
use Rattle.futures.specs.declared.task.Poll.TheVariants.{Ready, Pending}
use Rattle.http_config.specs.Causes.{Rose}
use Rattle.http_types.specs.declared.error.PayloadError.{PayloadError}
use Rattle.http_types.specs.declared.error.PayloadError.TheVariants as error
use Rattle.http_bodies.specs.Told.{led_by, Tells, Waits}
use Rattle.http_services.specs.Queue.{Pull}

-- a chunk, or an error
abbrev pub Fed : Type 0
Fed = Result (List ℕ) PayloadError

-- what is still to come before the end, if that is known, whether it may be out of memory, and the counts of faults and
-- of Pending answers
pub record Feeding : Type 0 where
  pub coming : Option (List Fed)
  pub takes_memory : Bool
  pub faults : ℕ
  pub waits : ℕ

-- a source of which nothing is known beforehand but its counts
abbrev pub unknown_source : ℕ → ℕ → Feeding
unknown_source faults waits = record { coming = None; takes_memory = true; faults = faults; waits = waits }

-- out of memory, nothing left
abbrev pub refusal : PayloadError → List Fed
refusal error.NoMemory = []
refusal error.Incomplete = Err error.Incomplete ∷ []
refusal error.EncodingCorrupted = Err error.EncodingCorrupted ∷ []
refusal error.Overflow = Err error.Overflow ∷ []
refusal error.UnknownLength = Err error.UnknownLength ∷ []
refusal error.Io = Err error.Io ∷ []

-- what left with an answer
abbrev pub fed : Pull → List Fed
fed (Ready (Some (Ok piece))) = Ok piece ∷ []
fed (Ready (Some (Err e))) = refusal e
fed (Ready None) = []
fed Pending = []

-- the end is answered only where nothing is still to come
abbrev pub FeedEnds : Option (List Fed) → Pull → Type 0
FeedEnds coming (Ready (Some x)) = ⊤
FeedEnds coming (Ready None) = Tells coming []
FeedEnds coming Pending = ⊤

-- the count of faults never falls, and an error other than out of memory comes only where it rose
abbrev pub FeedFaults : ℕ → ℕ → Pull → Type 0
FeedFaults before now (Ready (Some (Ok piece))) = before ≤ now
FeedFaults before now (Ready (Some (Err e))) = (before ≤ now) × (¬ (e ≡ error.NoMemory) → Rose before now)
FeedFaults before now (Ready None) = before ≤ now
FeedFaults before now Pending = before ≤ now

-- only what takes memory may be out of it
abbrev pub FeedLacks : Bool → Pull → Type 0
FeedLacks takes (Ready (Some (Ok piece))) = ⊤
FeedLacks takes (Ready (Some (Err e))) = e ≡ error.NoMemory → takes ≡ true
FeedLacks takes (Ready None) = ⊤
FeedLacks takes Pending = ⊤

pub record FeedSays (old new : Feeding) (result : Pull) : Type 0 where
  pub gives : old.coming ≡ led_by (fed result) new.coming
  pub ends : FeedEnds old.coming result
  pub lacks : FeedLacks old.takes_memory result
  pub takes_memory : new.takes_memory ≡ old.takes_memory
  pub faults : FeedFaults old.faults new.faults result
  pub waits : Waits old.waits new.waits result
