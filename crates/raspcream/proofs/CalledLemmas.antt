-- A call of the side inside a machine is one of the machine.
use Rattle.std.proofs.Common.{◌≡◌, ◌≢◌, ◌≤◌, ◌<◌, ◌%◌, ◌/◌, ℕ, List, Result, Ok, Err, IfErr, ap, refl, sym, subst, inl, inr, lit≤, arith}
use Rattle.h1_connection.specs.State as server
use Rattle.h1_client.specs.State as client
use Rattle.raspcream.specs.Asked.{HasAsked}
use Rattle.raspcream.specs.Calls.{Did, MayFail, MayFailAt, IsUnknown, IsCleared, IsCalled}
use Rattle.raspcream.specs.Numbers.{number_of, code_said}
use Rattle.raspcream.specs.Refused.{MayRefuse, MayDecline, IsCode}
use Rattle.raspcream.specs.Served.{HasServed}
use Rattle.raspcream.specs.declared.machine.Machine.{Machine}
use Rattle.raspcream.specs.declared.machine.Machine.TheVariants.{Server, Client}
use Rattle.raspcream.specs.declared.op.Op.{Op}
use Rattle.raspcream.specs.declared.op.Op.TheVariants as asks
use Rattle.raspcream.specs.declared.reply.Failure.{Failure}
use Rattle.raspcream.specs.declared.reply.Failure.TheVariants.{NoMemory, Misplaced, Invalid}
use Rattle.raspcream.specs.declared.reply.Reply.{Reply}
use Rattle.raspcream.specs.declared.reply.TheConstants.{MAX_FIELDS}

pub served_same : (before after : server.State) (machine : Machine) (code : ℕ) → machine ≡ Server before → (code ≢ 0 → after ≡ before) → code ≢ 0 → Server after ≡ machine
served_same before after machine code is kept bad = subst (λ (m : Machine). Server after ≡ m) (sym is) (ap (λ (s : server.State). Server s) (kept bad))

pub asked_same : (before after : client.State) (machine : Machine) (code : ℕ) → machine ≡ Client before → (code ≢ 0 → after ≡ before) → code ≢ 0 → Client after ≡ machine
asked_same before after machine code is kept bad = subst (λ (m : Machine). Client after ≡ m) (sym is) (ap (λ (s : client.State). Client s) (kept bad))

pub served_did : (before after : server.State) (machine : Machine) (asked : Op) (arg number : ℕ) (input : List ℕ) (code : ℕ) (reply : Reply)
    → machine ≡ Server before → (code ≡ 0 → HasServed asked arg number input reply before after) → code ≡ 0 → Did asked arg number input reply machine (Server after)
served_did before after machine asked arg number input code reply is done good =
    subst (λ (m : Machine). Did asked arg number input reply m (Server after)) (sym is) (done good)

pub asked_did : (before after : client.State) (machine : Machine) (asked : Op) (arg number : ℕ) (input : List ℕ) (code : ℕ) (reply : Reply)
    → machine ≡ Client before → (code ≡ 0 → HasAsked asked arg number input reply before after) → code ≡ 0 → Did asked arg number input reply machine (Client after)
asked_did before after machine asked arg number input code reply is done good =
    subst (λ (m : Machine). Did asked arg number input reply m (Client after)) (sym is) (done good)

pub served_code : (before : server.State) (machine : Machine) (asked : Op) (arg number : ℕ) (input : List ℕ) (code : ℕ) → machine ≡ Server before
    → IsCode (MayRefuse asked arg number input before) code → IsCode (MayFail asked arg number input machine) code
served_code before machine asked arg number input code is reason = subst (λ (m : Machine). IsCode (MayFail asked arg number input m) code) (sym is) reason

pub asked_code : (before : client.State) (machine : Machine) (asked : Op) (arg number : ℕ) (input : List ℕ) (code : ℕ) → machine ≡ Client before
    → IsCode (MayDecline asked arg number input before) code → IsCode (MayFail asked arg number input machine) code
asked_code before machine asked arg number input code is reason = subst (λ (m : Machine). IsCode (MayFail asked arg number input m) code) (sym is) reason

-- the code of an answer has the answer's reason
pub code_of_answer : (P : Failure → Type 0) (answer : Result (Unit {0}) Failure) → IfErr answer P → IsCode P (code_said answer)
code_of_answer P (Ok done) why = record { known = lit≤ tt; wanting = λ e. absurd (omega arith); misplaced = λ e. absurd (omega arith); invalid = λ e. absurd (omega arith) }
code_of_answer P (Err NoMemory) why = record { known = lit≤ tt; wanting = λ e. why; misplaced = λ e. absurd (omega arith); invalid = λ e. absurd (omega arith) }
code_of_answer P (Err Misplaced) why = record { known = lit≤ tt; wanting = λ e. absurd (omega arith); misplaced = λ e. why; invalid = λ e. absurd (omega arith) }
code_of_answer P (Err Invalid) why = record { known = lit≤ tt; wanting = λ e. absurd (omega arith); misplaced = λ e. absurd (omega arith); invalid = λ e. why }

pub code_with : (P : Failure → Type 0) (answer : Result (Unit {0}) Failure) (code : ℕ) → code ≡ code_said answer → IfErr answer P → IsCode P code
code_with P answer code is why = subst (λ (n : ℕ). IsCode P n) (sym is) (code_of_answer P answer why)

pub code_named : (op number : ℕ) (input : List ℕ) (before : Machine) (asked : Op) (code : ℕ) → number_of asked ≡ op % 256 → IsCode (MayFail asked (op / 256) number input before) code
    → IsCode (MayFailAt op number input before) code
code_named op number input before asked code named reason = record {
  known = reason.known;
  wanting = λ e. inl (asked, named, reason.wanting e);
  misplaced = λ e. inl (asked, named, reason.misplaced e);
  invalid = λ e. inl (asked, named, reason.invalid e);
}

pub called : (before after : Machine) (asked : Op) (op number : ℕ) (input : List ℕ) (code : ℕ) (clear reply : Reply) → number_of asked ≡ op % 256
    → (code ≢ 0 → after ≡ before) → IsCode (MayFail asked (op / 256) number input before) code → (code ≢ 0 → reply ≡ clear) → (clear.count ≤ MAX_FIELDS → reply.count ≤ MAX_FIELDS) → IsCleared clear
    → (code ≡ 0 → Did asked (op / 256) number input reply before after) → IsCalled op number input before code reply after
called before after asked op number input code clear reply named kept reason quiet few cleared done = record {
  kept = kept;
  done = λ good. record { asked = asked; named = named; did = done good };
  reason = code_named op number input before asked code named reason;
  cleared = λ bad. subst (λ (r : Reply). IsCleared r) (sym (quiet bad)) cleared;
  few = few (subst (λ (n : ℕ). n ≤ MAX_FIELDS) (sym cleared.fields) (lit≤ tt));
}

pub not_called : (machine : Machine) (op number : ℕ) (input : List ℕ) (reply : Reply) → IsUnknown (op % 256) → IsCleared reply → IsCalled op number input machine 3 reply machine
not_called machine op number input reply unknown cleared = record {
  kept = λ bad. refl;
  done = λ good. absurd (omega arith);
  reason = record { known = lit≤ tt; wanting = λ e. absurd (omega arith); misplaced = λ e. absurd (omega arith); invalid = λ e. inr (refl, unknown) };
  cleared = λ bad. cleared;
  few = subst (λ (n : ℕ). n ≤ MAX_FIELDS) (sym cleared.fields) (lit≤ tt);
}

at_most : (asked : Op) → number_of asked ≤ 19
at_most asked = elim asked as (λ a. number_of a ≤ 19) [ asks.Read ↦ lit≤ tt | asks.Eof ↦ lit≤ tt | asks.Next ↦ lit≤ tt | asks.Pull ↦ lit≤ tt | asks.DropBody ↦ lit≤ tt | asks.Continue ↦ lit≤ tt | asks.Head ↦ lit≤ tt | asks.Chunk ↦ lit≤ tt | asks.End ↦ lit≤ tt | asks.Fail ↦ lit≤ tt | asks.Front ↦ lit≤ tt | asks.Advance ↦ lit≤ tt | asks.Tick ↦ lit≤ tt | asks.Drain ↦ lit≤ tt | asks.Accept ↦ lit≤ tt | asks.Frame ↦ lit≤ tt | asks.Send ↦ lit≤ tt | asks.State ↦ lit≤ tt | asks.Held ↦ lit≤ tt | asks.Ahead ↦ lit≤ tt ]

below_all : (number : ℕ) → 19 < number → (asked : Op) → number_of asked ≤ 19 → number_of asked ≡ number → ⊥
below_all number above asked below e = omega arith

pub none_is : (number : ℕ) → 19 < number → IsUnknown number
none_is number above asked = below_all number above asked (at_most asked)
