-- What a service is lent while a call of it is in progress, and what a call may take of it.
use Rattle.std.specs.Prelude.{◌≡◌, ◌≤◌, ◌+◌, ℕ, Bool, true, false, Option, Some, None, List, [], ◌∷◌, ◌++◌, length, Result, Ok, Err}
use Rattle.futures.specs.declared.task.Poll.TheVariants.{Ready, Pending}
use Rattle.http_map.specs.HeaderMap.{Entries}
use Rattle.http_types.specs.declared.error.PayloadError.{PayloadError}
use Rattle.http_services.specs.Queue.{Queue, Pull}

-- the bytes that wait, the error that waits, whether the end was fed, the trailers, and how many bytes were put back
pub record Lent : Type 0 where
  pub bytes : List ℕ
  pub error : Option PayloadError
  pub ended : Bool
  pub trailers : Option Entries
  pub put_back : ℕ

abbrev pub nothing_lent : Lent
nothing_lent = record { bytes = []; error = None; ended = false; trailers = None; put_back = 0 }

abbrev pub joined : List (List ℕ) → List ℕ
joined [] = []
joined (chunk ∷ chunks) = chunk ++ joined chunks

abbrev pub lent_of : Queue → Lent
lent_of q = record { bytes = joined q.chunks; error = q.error; ended = q.ended; trailers = q.trailers; put_back = q.put_back }

-- no more bytes wait than waited and were put back
abbrev pub LentBound : Lent → Lent → Type 0
LentBound old new = length new.bytes + old.put_back ≤ length old.bytes + new.put_back

-- what a pull took of it
abbrev pub Pulled : Lent → Lent → Pull → Type 0
Pulled old new (Ready (Some (Ok piece))) = (old.bytes ≡ piece ++ new.bytes) × (new.error ≡ old.error)
Pulled old new (Ready (Some (Err e))) = (new.bytes ≡ old.bytes) × (old.error ≡ Some e) × (new.error ≡ None)
Pulled old new (Ready None) = (new ≡ old) × (old.bytes ≡ []) × (old.error ≡ None) × (old.ended ≡ true)
Pulled old new Pending = (new ≡ old) × (old.bytes ≡ []) × (old.error ≡ None) × (old.ended ≡ false)

-- a pull, by what it answered
pub record PullsLent (old new : Lent) (result : Pull) : Type 0 where
  pub pulled : Pulled old new result
  pub ended : new.ended ≡ old.ended
  pub trailers : new.trailers ≡ old.trailers
  pub put_back : new.put_back ≡ old.put_back
  pub bound : LentBound old new

-- what a call took of what it was lent
pub record Took : Type 0 where
  pub bytes : List ℕ
  pub error : Option PayloadError

-- the error that was taken, or else the one that waits
abbrev pub either_error : Option PayloadError → Option PayloadError → Option PayloadError
either_error (Some e) waits = Some e
either_error None waits = waits

-- what was taken and what waits are together the same as before
pub record TakesOnly (took more : Took) (old new : Lent) : Type 0 where
  pub bytes : more.bytes ++ new.bytes ≡ took.bytes ++ old.bytes
  pub error : either_error more.error new.error ≡ either_error took.error old.error
  pub ended : new.ended ≡ old.ended
  pub trailers : new.trailers ≡ old.trailers
