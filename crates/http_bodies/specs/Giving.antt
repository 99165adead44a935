-- What a body, or a stream of pieces, gives.
use Rattle.std.specs.Prelude.{◌≡◌, ◌≤◌, ℕ, Bool, true, Option, Some, None, List, [], ◌∷◌, ⊤, Result, Ok, Err}
use Rattle.futures.specs.declared.task.Poll.{Poll}
use Rattle.futures.specs.declared.task.Poll.TheVariants.{Ready, Pending}
use Rattle.http_config.specs.Causes.{Rose}
use Rattle.http_framing.specs.declared.body.size.BodySize.{BodySize}
use Rattle.http_bodies.specs.Told.{Tells, led_by, Waits}
use Rattle.http_bodies.specs.declared.body.fault.BodyFault.{BodyFault}
use Rattle.http_bodies.specs.declared.body.fault.BodyFault.TheVariants.{Body, NoMemory}

-- one that a body or a stream gives: the bytes of a chunk, or a fault by its number
pub data Given : Type 0 where
  chunk : List ℕ → Given
  fault : ℕ → Given

-- a body: its size, what is still to come before the end, if that is known, whether it may be out of memory, and its
-- counts of faults and of Pending answers
pub record Giving : Type 0 where
  pub size : BodySize
  pub coming : Option (List Given)
  pub takes_memory : Bool
  pub faults : ℕ
  pub waits : ℕ

-- a stream of pieces: the same, but for the size
pub record Streaming : Type 0 where
  pub coming : Option (List Given)
  pub takes_memory : Bool
  pub faults : ℕ
  pub waits : ℕ

-- a stream of which nothing is known beforehand but its counts
abbrev pub unknown_stream : ℕ → ℕ → Streaming
unknown_stream faults waits = record { coming = None; takes_memory = true; faults = faults; waits = waits }

-- the answer of a poll, with its bytes as a list
abbrev pub Piece : Type 0
Piece = Poll (Option (Result (List ℕ) BodyFault))

-- what left with an answer; out of memory, nothing did
abbrev pub gave : Piece → List Given
gave (Ready (Some (Ok piece))) = chunk piece ∷ []
gave (Ready (Some (Err (Body n)))) = fault n ∷ []
gave (Ready (Some (Err NoMemory))) = []
gave (Ready None) = []
gave Pending = []

-- the end is answered only where nothing is still to come
abbrev pub EndsAt : Option (List Given) → Piece → Type 0
EndsAt coming (Ready (Some x)) = ⊤
EndsAt coming (Ready None) = Tells coming []
EndsAt coming Pending = ⊤

-- the count of faults never falls, and a fault comes only where it rose
abbrev pub FaultsBy : ℕ → ℕ → Piece → Type 0
FaultsBy before now (Ready (Some (Ok piece))) = before ≤ now
FaultsBy before now (Ready (Some (Err (Body n)))) = (before ≤ now) × Rose before now
FaultsBy before now (Ready (Some (Err NoMemory))) = before ≤ now
FaultsBy before now (Ready None) = before ≤ now
FaultsBy before now Pending = before ≤ now

-- only what takes memory may be out of it
abbrev pub LacksBy : Bool → Piece → Type 0
LacksBy takes (Ready (Some (Ok piece))) = ⊤
LacksBy takes (Ready (Some (Err (Body n)))) = ⊤
LacksBy takes (Ready (Some (Err NoMemory))) = takes ≡ true
LacksBy takes (Ready None) = ⊤
LacksBy takes Pending = ⊤

-- a poll of a body
pub record PieceSays (old new : Giving) (result : Piece) : Type 0 where
  pub gives : old.coming ≡ led_by (gave result) new.coming
  pub ends : EndsAt old.coming result
  pub lacks : LacksBy old.takes_memory result
  pub takes_memory : new.takes_memory ≡ old.takes_memory
  pub faults : FaultsBy old.faults new.faults result
  pub waits : Waits old.waits new.waits result

-- a poll of a stream
pub record StreamSays (old new : Streaming) (result : Piece) : Type 0 where
  pub gives : old.coming ≡ led_by (gave result) new.coming
  pub ends : EndsAt old.coming result
  pub lacks : LacksBy old.takes_memory result
  pub takes_memory : new.takes_memory ≡ old.takes_memory
  pub faults : FaultsBy old.faults new.faults result
  pub waits : Waits old.waits new.waits result
