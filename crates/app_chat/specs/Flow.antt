-- Bytes between a socket and its connection of the hub.
use Rattle.std.specs.Prelude.{◌≡◌, ℕ, Bool, true, false, List, [], ◌++◌, length, take, drop, Option, Some, None, ⊤}
use Rattle.std.specs.Io.KnownBytes.{Consumes, Keeps, IsAtEnd, Appends}
use Rattle.rooms.specs.Hub.{HubState}
use Rattle.app_chat.specs.Moves.{Moves}
use Rattle.app_chat.specs.declared.member.Standing.{Standing}
use Rattle.app_chat.specs.declared.flow.TakenIn.{TakenIn}
use Rattle.app_chat.specs.declared.flow.TakenIn.TheVariants as came

-- ---- one call

-- nothing came, and the hub was told of nothing
abbrev pub Stays : HubState → Option (List ℕ) → Option (List ℕ) → HubState → Type 0
Stays hub left rest after = (after ≡ hub) × Consumes left rest []

-- What a read brought: the bytes that left the source are those that the connection took. At the end, and where nothing came,
-- it was told of nothing.
abbrev pub TakesIn : ℕ → HubState → Option (List ℕ) → Option (List ℕ) → TakenIn → HubState → Type 0
TakesIn i hub left rest (came.Bytes n) after = (bytes : List ℕ) × (length bytes ≡ n) × Consumes left rest bytes × Moves i hub bytes [] after
TakesIn i hub left rest came.End after = Stays hub left rest after × IsAtEnd rest
TakesIn i hub left rest came.Failed after = Stays hub left rest after
TakesIn i hub left rest came.Full after = Stays hub left rest after
TakesIn i hub left rest came.Refused after = ⊤

-- the first bytes that were owed were written, and no others, and they are owed no more
abbrev pub Writes : Option (List ℕ) → List ℕ → Option (List ℕ) → List ℕ → Option ℕ → Type 0
Writes given owed after left (Some n) = Appends given after (take n owed) × (left ≡ drop n owed)
Writes given owed after left None = Keeps given after × (left ≡ owed)

-- ---- many calls

-- A hub; what is left to come from the peer of one of its connections and what that peer was given, where that is known; what
-- the connection gave and isn't written yet; and whether the peer was given up.
pub record Sides : Type 0 where
  pub hub : HubState
  pub left : Option (List ℕ)
  pub given : Option (List ℕ)
  pub owed : List ℕ
  pub lost : Bool

abbrev pub sides : HubState → Option (List ℕ) → Option (List ℕ) → Standing → Sides
sides hub left given standing = record { hub = hub; left = left; given = given; owed = standing.owed; lost = standing.is_lost }

-- The bytes that came are those that the connection took. Those that the peer was given, and then those that are owed to it now,
-- are those that were owed to it and then those that the connection gave. Each goes once, and in order.
pub record Passed (i : ℕ) (old new : Sides) : Type 0 where
  pub came : List ℕ
  pub went : List ℕ
  pub put : List ℕ
  pub moves : Moves i old.hub came went new.hub
  pub left : Consumes old.left new.left came
  pub given : Appends old.given new.given put
  pub owed : old.owed ++ went ≡ put ++ new.owed

-- That holds until the peer is given up. One that was given up stays so.
pub record Passes (i : ℕ) (old new : Sides) : Type 0 where
  pub stays : old.lost ≡ true → new.lost ≡ true
  pub passed : new.lost ≡ false → Passed i old new
