-- What a call says of the machine.
use Rattle.std.specs.Prelude.{◌≡◌, ◌≢◌, ◌≤◌, ◌⊎◌, ◌%◌, ◌/◌, ℕ, List}
use Rattle.raspcream.specs.Asked.{HasAsked}
use Rattle.raspcream.specs.Numbers.{number_of}
use Rattle.raspcream.specs.Refused.{MayRefuse, MayDecline, IsCode}
use Rattle.raspcream.specs.Served.{HasServed}
use Rattle.raspcream.specs.declared.machine.Machine.{Machine}
use Rattle.raspcream.specs.declared.machine.Machine.TheVariants.{Server, Client}
use Rattle.raspcream.specs.declared.op.Op.{Op}
use Rattle.raspcream.specs.declared.reply.Failure.{Failure}
use Rattle.raspcream.specs.declared.reply.Failure.TheVariants.{Invalid}
use Rattle.raspcream.specs.declared.reply.Reply.{Reply}
use Rattle.raspcream.specs.declared.reply.TheConstants.{MAX_FIELDS}

-- a machine stays a server's or a client's side, and has made the step of what was asked
abbrev pub Did : Op → ℕ → ℕ → List ℕ → Reply → Machine → Machine → Type 0
Did asked arg number input reply (Server before) (Server after) = HasServed asked arg number input reply before after
Did asked arg number input reply (Client before) (Client after) = HasAsked asked arg number input reply before after
Did asked arg number input reply (Server before) (Client after) = ⊥
Did asked arg number input reply (Client before) (Server after) = ⊥

-- the lowest byte of the number says what is asked, and those above it are an argument
pub record HasDone (op number : ℕ) (input : List ℕ) (reply : Reply) (before after : Machine) : Type 0 where
  pub asked : Op
  pub named : number_of asked ≡ op % 256
  pub did : Did asked (op / 256) number input reply before after

-- why a machine may refuse what is asked
abbrev pub MayFail : Op → ℕ → ℕ → List ℕ → Machine → Failure → Type 0
MayFail asked arg number input (Server s) why = MayRefuse asked arg number input s why
MayFail asked arg number input (Client c) why = MayDecline asked arg number input c why

-- no call has the number
abbrev pub IsUnknown : ℕ → Type 0
IsUnknown number = (asked : Op) → number_of asked ≢ number

-- what is asked may be refused for the reason, or nothing has the number
abbrev pub MayFailAt : ℕ → ℕ → List ℕ → Machine → Failure → Type 0
MayFailAt op number input before why =
    ((asked : Op) × (number_of asked ≡ op % 256) × MayFail asked (op / 256) number input before why) ⊎ ((why ≡ Invalid) × IsUnknown (op % 256))

-- the reply tells nothing
pub record IsCleared (reply : Reply) : Type 0 where
  pub kind : reply.kind ≡ 0
  pub bytes : reply.bytes.len ≡ 0
  pub method : reply.method.len ≡ 0
  pub target : reply.target.len ≡ 0
  pub fields : reply.count ≡ 0

-- After a code other than 0 all is as before, the code has its reason, and the reply tells nothing. After code 0 the step
-- was made. No reply has more lines than there is room for.
pub record IsCalled (op number : ℕ) (input : List ℕ) (before : Machine) (code : ℕ) (reply : Reply) (after : Machine) : Type 0 where
  pub kept : code ≢ 0 → after ≡ before
  pub done : code ≡ 0 → HasDone op number input reply before after
  pub reason : IsCode (MayFailAt op number input before) code
  pub cleared : code ≢ 0 → IsCleared reply
  pub few : reply.count ≤ MAX_FIELDS
