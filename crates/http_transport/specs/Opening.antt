-- What is known of an acceptor, and how a call changes it.
use Rattle.std.specs.Prelude.{◌≡◌, ◌≤◌, ℕ, Bool, false, Option, Some, None, [], IsTrue, Result, Ok, Err}
use Rattle.http_config.specs.Causes.{Rose, counted}
use Rattle.http_bodies.specs.Told.{Tells}
use Rattle.http_transport.specs.Wiring.{Wiring}

-- how often it failed, how many connections it gave, and that it answered that none follows
pub record Opening : Type 0 where
  pub faults : ℕ
  pub given : ℕ
  pub ended : Bool

-- it was opened, or failed
pub record OpenSays {E : Type 0} (old new : Opening) (result : Result Unit E) : Type 0 where
  pub given : new.given ≡ old.given
  pub ended : new.ended ≡ old.ended
  pub never_falls : old.faults ≤ new.faults
  pub failed : (e : E) → result ≡ Err e → Rose old.faults new.faults

-- over a new connection no byte was received or sent, and it shows no end and no shutdown
abbrev pub IsFresh : Wiring → Type 0
IsFresh transport = Tells transport.received [] × Tells transport.sent [] × (transport.ended ≡ false) × (transport.shut ≡ false)

-- a connection was given, none follows, or it failed
abbrev pub Accepts : {C E : Type 0} → (C → Wiring) → Opening → Opening → Result (Option C) E → Type 0
Accepts wiring old new (Ok (Some connection)) =
    (new.given ≡ counted old.given) × (new.ended ≡ old.ended) × (old.faults ≤ new.faults) × IsFresh (wiring connection)
Accepts wiring old new (Ok None) = (new.given ≡ old.given) × IsTrue new.ended × (old.faults ≤ new.faults)
Accepts wiring old new (Err e) = (new.given ≡ old.given) × (new.ended ≡ old.ended) × (old.faults ≤ new.faults) × Rose old.faults new.faults
