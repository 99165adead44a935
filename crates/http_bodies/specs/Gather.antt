-- The bytes of a body, gathered, up to a limit where there is one.
use Rattle.std.specs.Prelude.{◌≡◌, ◌≤◌, ◌⊎◌, ℕ, Bool, true, false, Option, List, [], ⊤, length, ◌++◌, Result, Ok, Err, IsTrue, IsFalse, IsSome}
use Rattle.futures.specs.declared.task.Poll.{Poll}
use Rattle.futures.specs.declared.task.Poll.TheVariants.{Ready, Pending}
use Rattle.http_config.specs.Causes.{Rose}
use Rattle.http_framing.specs.declared.body.size.BodySize.{BodySize}
use Rattle.http_framing.specs.declared.body.size.BodySize.TheVariants as size
use Rattle.http_bodies.specs.Told.{led_by}
use Rattle.http_bodies.specs.Giving.{Given, Giving}
use Rattle.http_bodies.specs.Whole.{Whole, unknown, ends, fails, whole, AreAll}
use Rattle.http_bodies.specs.Limit.{passes}
use Rattle.http_bodies.specs.declared.body.fault.BodyFault.{BodyFault}
use Rattle.http_bodies.specs.declared.body.fault.BodyFault.TheVariants.{Body, NoMemory}
use Rattle.http_bodies.specs.declared.body.gatherer.Gatherer.{Gatherer}
use Rattle.http_bodies.specs.declared.body.limit.BodyLimitExceeded.{BodyLimitExceeded}

-- a body that is gathered: the size that it stated first, the limit, what came, and the body
pub record Gathering (B : Type 0) : Type 0 where
  pub size : BodySize
  pub limit : Option ℕ
  pub got : List ℕ
  pub body : B

-- what a gatherer's parts mean
abbrev pub gathering_of : {B : Type 0} → Gatherer B → Gathering B
gathering_of g = record { size = g.size; limit = g.limit; got = g.got.items ++ g.held; body = g.body }

-- the same, with what the body gives in its place
abbrev pub known : {B : Type 0} → (B → Giving) → Gathering B → Gathering Giving
known gives g = record { size = g.size; limit = g.limit; got = g.got; body = gives g.body }

-- what came and what is still to come
abbrev pub all_of : Gathering Giving → Whole
all_of g = whole g.got g.body.coming

-- a size that promises no bytes
abbrev pub IsNothing : BodySize → Type 0
IsNothing kind = (kind ≡ size.None) ⊎ (kind ≡ size.Sized 0)

-- the size that the body stated is above the limit
abbrev pub over : BodySize → Option ℕ → Bool
over (size.Sized n) limit = passes n limit
over size.None limit = false
over size.Stream limit = false

abbrev pub is_over : {B : Type 0} → Gathering B → Bool
is_over g = over g.size g.limit

-- the body has more bytes than the limit, if they are known
abbrev pub HasTooMany : Option ℕ → Whole → Type 0
HasTooMany limit unknown = ⊤
HasTooMany limit (ends bytes) = passes (length bytes) limit ≡ true
HasTooMany limit (fails bytes n) = passes (length bytes) limit ≡ true

-- the body fails with this number, after bytes that are within the limit
abbrev pub FailsWith : Option ℕ → Whole → ℕ → Type 0
FailsWith limit unknown n = ⊤
FailsWith limit (ends bytes) n = ⊥
FailsWith limit (fails bytes m) n = (n ≡ m) × (passes (length bytes) limit ≡ false)

-- the answer of a poll
abbrev pub Gathered : Type 0
Gathered = Poll (Result (Result (List ℕ) BodyFault) BodyLimitExceeded)

-- What came and what is to come are together as before, and what came is within the limit.
pub record KeepsAll (old new : Gathering Giving) : Type 0 where
  pub all : all_of new ≡ all_of old
  pub size : new.size ≡ old.size
  pub limit : new.limit ≡ old.limit
  pub within : passes (length new.got) new.limit ≡ false
  pub faults : old.body.faults ≤ new.body.faults

-- nothing is lost, and the body was pending in this poll, or 64 chunks came and the task was woken
pub record StillGathers (old new : Gathering Giving) (is_woken : Bool) : Type 0 where
  pub keeps : KeepsAll old new
  pub pending : Rose old.body.waits new.body.waits
      ⊎ (((came : List Given) × (old.body.coming ≡ led_by came new.body.coming) × (length came ≡ 64)) × (is_woken ≡ true))

abbrev pub Gathers : Gathering Giving → Gathering Giving → Bool → Gathered → Type 0
Gathers old new is_woken (Ready (Ok (Ok bytes))) = AreAll (all_of old) bytes × (passes (length bytes) old.limit ≡ false) × (old.body.faults ≤ new.body.faults)
Gathers old new is_woken (Ready (Ok (Err (Body n)))) = FailsWith old.limit (all_of old) n × (old.body.faults ≤ new.body.faults) × Rose old.body.faults new.body.faults
Gathers old new is_woken (Ready (Ok (Err NoMemory))) = KeepsAll old new
Gathers old new is_woken (Ready (Err e)) = HasTooMany old.limit (all_of old) × (old.body.faults ≤ new.body.faults)
Gathers old new is_woken Pending = StillGathers old new is_woken

abbrev pub IsTooMany : Gathered → Type 0
IsTooMany (Ready (Ok x)) = ⊥
IsTooMany (Ready (Err e)) = ⊤
IsTooMany Pending = ⊥

-- without a limit no body has too many bytes
abbrev pub NeedsLimit : Option ℕ → Gathered → Type 0
NeedsLimit limit (Ready (Ok x)) = ⊤
NeedsLimit limit (Ready (Err e)) = IsSome limit
NeedsLimit limit Pending = ⊤

-- A poll: a body that promises no bytes gives none and isn't polled, and one that promises too many is refused; else
-- its bytes are gathered.
pub record GatherSays (old new : Gathering Giving) (is_woken : Bool) (result : Gathered) : Type 0 where
  pub nothing : IsNothing old.size → (result ≡ Ready (Ok (Ok []))) × (new ≡ old)
  pub over : (IsNothing old.size → ⊥) → IsTrue (is_over old) → IsTooMany result × (new ≡ old)
  pub gathers : (IsNothing old.size → ⊥) → IsFalse (is_over old) → Gathers old new is_woken result

-- an answer without a limit, as one with it
abbrev pub unlimited : Poll (Result (List ℕ) BodyFault) → Gathered
unlimited (Ready answer) = Ready (Ok answer)
unlimited Pending = Pending
