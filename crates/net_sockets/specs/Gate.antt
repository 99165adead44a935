-- A transport that reads nothing while its write waits.
use Rattle.std.specs.Prelude.{ℕ, Bool, true, false}
use Rattle.futures.specs.declared.task.Poll.{Poll}
use Rattle.futures.specs.declared.task.Poll.TheVariants.{Ready, Pending}
use Rattle.http_transport.specs.Wiring.{Wiring}

-- the transport below, whether its write waits, and how often a read was pending
pub record Gate (W : Type 0) : Type 0 where
  pub transport : W
  pub waits : Bool
  pub reads : ℕ

-- what is known of it is what is known of the transport below, but for the reads that were pending
abbrev pub gate_wiring : {W : Type 0} → (W → Wiring) → Gate W → Wiring
gate_wiring wiring gate = record (wiring gate.transport) { read_waits = gate.reads }

abbrev pub is_pending : {A : Type 0} → Poll A → Bool
is_pending (Ready x) = false
is_pending Pending = true
