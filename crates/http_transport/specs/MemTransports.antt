-- What a transport in memory keeps, and what its calls answer.
use Rattle.std.specs.Prelude.{◌≡◌, ◌≤◌, ◌<◌, ◌+◌, ◌==◌, ◌⊎◌, ℕ, zero, Bool, false, List, [], ◌∷◌, length, min, ⊤, Result, Ok, Err}
use Rattle.std.specs.List.{list_any}
use Rattle.futures.specs.declared.task.Poll.{Poll}
use Rattle.futures.specs.declared.task.Poll.TheVariants.{Ready, Pending}
use Rattle.http_transport.specs.Left.{Gives}
use Rattle.http_transport.specs.declared.mem_transport.pieces.Front.TheVariants as front

-- The pieces that are left, the first one without what was read of it; how much each of the next writes takes; the
-- numbers of the calls that fail, and the number of the next one; what was received and sent; whether it showed its end
-- and its shutdown; its counts; and for how many more bytes it has memory, at its reads and at its writes.
pub record MemWiring : Type 0 where
  pub left : List (List ℕ)
  pub room : List ℕ
  pub fail : List ℕ
  pub calls : ℕ
  pub received : List ℕ
  pub sent : List ℕ
  pub ended : Bool
  pub shut : Bool
  pub faults : ℕ
  pub reads : ℕ
  pub writes : ℕ
  pub read_room : ℕ
  pub write_room : ℕ

-- no call was made
abbrev pub fresh : List (List ℕ) → List ℕ → List ℕ → MemWiring
fresh pieces room fail =
    record {
      left = pieces;
      room = room;
      fail = fail;
      calls = 0;
      received = [];
      sent = [];
      ended = false;
      shut = false;
      faults = 0;
      reads = 0;
      writes = 0;
      read_room = 0;
      write_room = 0;
    }

-- the next call fails
abbrev pub fails_next : MemWiring → Bool
fails_next w = list_any (λ n. n == w.calls) w.fail

-- it failed
abbrev pub IsFailed : {A E : Type 0} → Poll (Result A E) → Type 0
IsFailed (Ready (Err e)) = ⊤
IsFailed (Ready (Ok x)) = ⊥
IsFailed Pending = ⊥

-- A call uses up room for what it moves, and for nothing else.
abbrev pub UsesRoom : {E : Type 0} → ℕ → ℕ → Poll (Result ℕ E) → Type 0
UsesRoom old new (Ready (Ok n)) = old ≤ new + n
UsesRoom old new (Ready (Err e)) = old ≤ new
UsesRoom old new Pending = old ≤ new

-- A read gives the front of the first piece that is left. An empty piece is Pending once, and after the last piece the
-- input ends. A read that failed took nothing.
abbrev pub ReadsLeft : {E : Type 0} → List (List ℕ) → List (List ℕ) → List ℕ → Poll (Result ℕ E) → Type 0
ReadsLeft old new buf (Ready (Ok zero)) = ((old ≡ []) × (new ≡ [])) ⊎ Gives old new buf (front.Moved zero)
ReadsLeft old new buf (Ready (Ok n)) = Gives old new buf (front.Moved n)
ReadsLeft old new buf (Ready (Err e)) = new ≡ old
ReadsLeft old new buf Pending = Gives old new buf front.Empty

-- A write takes as much as its room says, or all where none is said any more. An empty room is Pending once. A write
-- that failed took nothing.
abbrev pub WritesBy : {E : Type 0} → List ℕ → List ℕ → List ℕ → Poll (Result ℕ E) → Type 0
WritesBy [] new bytes (Ready (Ok n)) = (n ≡ length bytes) × (new ≡ [])
WritesBy (room ∷ more) new bytes (Ready (Ok n)) = (0 < room) × (n ≡ min (length bytes) room) × (new ≡ more)
WritesBy old new bytes (Ready (Err e)) = new ≡ old
WritesBy [] new bytes Pending = ⊥
WritesBy (room ∷ more) new bytes Pending = (room ≡ 0) × (new ≡ more)
