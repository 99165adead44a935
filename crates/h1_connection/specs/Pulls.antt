-- What a pull gives.
use Rattle.std.specs.Prelude.{◌≡◌, Bool, true, false, ◌||◌, Option, Some, None}
use Rattle.model_state.specs.Kept as machine
use Rattle.model_state.specs.Kept.{Kept}
use Rattle.model_state.specs.Pull as pulls
use Rattle.model_state.specs.Pull.{IsPull}
use Rattle.h1_payload.specs.Rests.{SaysPulled, IsLight}
use Rattle.h1_payload.specs.declared.pulled.Pulled.{Pulled}
use Rattle.h1_payload.specs.declared.pulled.Pulled.TheVariants.{End, Broken}
use Rattle.h1_connection.specs.Stock.{Stock}
use Rattle.h1_connection.specs.declared.connection.exchange.Exchange.{Exchange}

-- the end or the fault of the body is told
abbrev pub tells_done : Pulled → Bool
tells_done End = true
tells_done (Broken fault) = true
tells_done pulled = false

-- what a pull of this body gives leads from this exchange to that one, and leaves those bytes
pub record IsPulledFrom (x : Exchange) (p : pulls.Pulled) (answer : Pulled) (y : Exchange) (after : Stock) : Type 0 where
  pub outcome : SaysPulled answer p.outcome
  pub exchange : y ≡ record x { rest = p.rest; was_pulled = true; body_is_done = x.body_is_done || tells_done answer }
  pub unread : after.unread ≡ p.unread

-- a pull of the last request's body
abbrev pub IsPullFrom : Kept → Option machine.Exchange → pulls.Pulled → Type 0
IsPullFrom k None p = ⊥
IsPullFrom k (Some x) p = IsPull k.has_ended x.rest k.unread p

abbrev pub IsPullOf : Kept → pulls.Pulled → Type 0
IsPullOf k p = IsPullFrom k k.exchange p

-- It needs no memory: it tells the end or a fault, or gives nothing and has no text of a trailer section to keep.
abbrev pub IsLightFrom : Kept → Option machine.Exchange → Type 0
IsLightFrom k None = Unit {0}
IsLightFrom k (Some x) = (p : pulls.Pulled) × IsPull k.has_ended x.rest k.unread p × IsLight x.rest p.outcome p.rest

abbrev pub IsLightPull : Kept → Type 0
IsLightPull k = IsLightFrom k k.exchange
