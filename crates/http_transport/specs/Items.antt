-- The items that are read over a transport.
use Rattle.std.specs.Prelude.{◌≡◌, ◌≤◌, ◌⊎◌, ℕ, Bool, true, Option, Some, None, List, [], ◌++◌, length, IsTrue, Result, Ok, Err}
use Rattle.futures.specs.declared.task.Poll.{Poll}
use Rattle.futures.specs.declared.task.Poll.TheVariants.{Ready, Pending}
use Rattle.http_config.specs.Causes.{Rose}
use Rattle.http_framing.specs.AnyPieces.{GoesOn, OnlySays}
use Rattle.http_bodies.specs.Told.{Grows}
use Rattle.http_transport.specs.Wiring.{Wiring}
use Rattle.http_transport.specs.declared.framed.error.FramedError.{FramedError}
use Rattle.http_transport.specs.declared.framed.error.FramedError.TheVariants.{Codec, Io, NoMemory}

-- a read that gave a piece, failed, or found the transport not ready
abbrev pub CountsRead : {E : Type 0} → Wiring → Wiring → List ℕ → Poll (Result ℕ (FramedError E)) → Type 0
CountsRead old new came (Ready (Ok n)) =
    (n ≡ length came) × (n ≡ 0 → IsTrue new.ended) × (old.faults ≤ new.faults) × (new.read_waits ≡ old.read_waits)
CountsRead old new came (Ready (Err (Codec e))) = ⊥
CountsRead old new came (Ready (Err Io)) =
    (came ≡ []) × (old.faults ≤ new.faults) × Rose old.faults new.faults × (new.read_waits ≡ old.read_waits)
CountsRead old new came (Ready (Err NoMemory)) = (came ≡ []) × (new ≡ old)
CountsRead old new came Pending = (came ≡ []) × (old.faults ≤ new.faults) × (old.read_waits ≤ new.read_waits) × Rose old.read_waits new.read_waits

-- what a read leaves as it was
pub record OnlyRead (old new : Wiring) : Type 0 where
  pub sent : new.sent ≡ old.sent
  pub ended : IsTrue old.ended → IsTrue new.ended
  pub shut : new.shut ≡ old.shut
  pub writes : new.write_waits ≡ old.write_waits
  pub flushes : new.flush_waits ≡ old.flush_waits
  pub shuts : new.shut_waits ≡ old.shut_waits

-- the bytes that came stand behind those that were there
pub record ReadBy {E : Type 0} (old new : Wiring) (before came after : List ℕ) (result : Poll (Result ℕ (FramedError E))) : Type 0 where
  pub behind : after ≡ before ++ came
  pub received : Grows old.received new.received came
  pub others : OnlyRead old new
  pub counts : CountsRead old new came result

abbrev pub Reads : {E : Type 0} → Wiring → Wiring → List ℕ → List ℕ → Poll (Result ℕ (FramedError E)) → Type 0
Reads old new before after result = (came : List ℕ) × ReadBy old new before came after result

-- What bytes say to a codec, an item in front of that, what is said where no item follows and where an error refuses the
-- bytes, which errors say that memory ran out, which bytes the codec may be given, and what an error leaves.
module _ {D I R E : Type 0} (reads : D → List ℕ → R → Type 0) (given : I → R → R) (nothing : R) (breaks : E → R → Type 0)
    (lacks : E → Type 0) (seen : D → List ℕ → Type 0) (leaves : E → D → List ℕ → D → List ℕ → Type 0) where
  -- the codec stood before these bytes, behind which these came; it stands before the rest, and no item was given
  pub record Passed (d : D) (bytes came : List ℕ) (after : D) (rest : List ℕ) : Type 0 where
    pub goes_on : GoesOn reads given d (bytes ++ came) (λ r. r) after rest
    pub seen_on : seen d bytes → seen after rest

  -- the same, and the rest has no item yet
  pub record Waiting (d : D) (bytes came : List ℕ) (after : D) (rest : List ℕ) : Type 0 where
    pub passed : Passed d bytes came after rest
    pub nothing_yet : seen d bytes → OnlySays reads after rest (λ said. said ≡ nothing)

  -- The codec refused what was left, and this is what its error left.
  pub record Refused (d : D) (bytes came : List ℕ) (e : E) (after : D) (rest : List ℕ) : Type 0 where
    pub before : D
    pub left : List ℕ
    pub passed : Passed d bytes came before left
    pub refused : ¬ (lacks e) → seen d bytes → OnlySays reads before left (breaks e)
    pub lacking : lacks e → (after ≡ before) × (rest ≡ left)
    pub leaves_so : leaves e before left after rest

  -- An item is the next of the bytes that were there and came. The codec refuses them; the transport failed; memory ran out;
  -- the input ended. Or more bytes are needed and the transport was pending, or at least 64 bytes came and the task was woken.
  abbrev pub Answers : Wiring → Wiring → Bool → D → List ℕ → List ℕ → D → List ℕ → Poll (Option (Result I (FramedError E))) → Type 0
  Answers old new woken d bytes came after rest (Ready (Some (Ok item))) =
      GoesOn reads given d (bytes ++ came) (given item) after rest × (seen d bytes → seen after rest)
  Answers old new woken d bytes came after rest (Ready (Some (Err (Codec e)))) = Refused d bytes came e after rest
  Answers old new woken d bytes came after rest (Ready (Some (Err Io))) = Waiting d bytes came after rest × Rose old.faults new.faults
  Answers old new woken d bytes came after rest (Ready (Some (Err NoMemory))) = Waiting d bytes came after rest
  Answers old new woken d bytes came after rest (Ready None) = Waiting d bytes came after rest × IsTrue new.ended
  Answers old new woken d bytes came after rest Pending =
      (Waiting d bytes came after rest × Rose old.read_waits new.read_waits)
      ⊎ (Passed d bytes came after rest × (64 ≤ length came) × (woken ≡ true))

  -- the bytes that came were received in this poll, and the transport is else as before
  pub record Items (old new : Wiring) (woken : Bool) (d : D) (bytes came : List ℕ) (after : D) (rest : List ℕ)
      (result : Poll (Option (Result I (FramedError E)))) : Type 0 where
    pub received : Grows old.received new.received came
    pub others : OnlyRead old new
    pub faults : old.faults ≤ new.faults
    pub waits : old.read_waits ≤ new.read_waits
    pub answers : Answers old new woken d bytes came after rest result

  abbrev pub ItemSays : Wiring → Wiring → Bool → D → List ℕ → D → List ℕ → Poll (Option (Result I (FramedError E))) → Type 0
  ItemSays old new woken d bytes after rest result = (came : List ℕ) × Items old new woken d bytes came after rest result
