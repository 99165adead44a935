-- Requests that are held back for who polls: they ask for an upgrade, or their clients wait to be told to go on.
use Rattle.std.specs.Prelude.{◌≡◌, ℕ, Bool, false, Option, Some, None, List, if◌then◌else◌, ⊤}
use Rattle.http_types.specs.Response.{FullResponse}
use Rattle.http_bodies.specs.Giving.{Giving}
use Rattle.http_services.specs.Serving.{Serving, Calling}
use Rattle.http_transport.specs.Wiring.{Wiring}
use Rattle.model_h1.specs.Event as on
use Rattle.model_h1.specs.Handshake.{HandshakeError}
use Rattle.h1_connection.specs.EventMeaning.{failing_of}
use Rattle.h1_connection.specs.State.{Is}
use Rattle.h1_connection.specs.Steps.{Pair}
use Rattle.h1_connection.specs.declared.event.Outcome.{Outcome}
use Rattle.h1_connection.specs.declared.event.Outcome.TheVariants as outcomes
use Rattle.h1_traced.specs.Traced.{traced_of}
use Rattle.h1_dispatcher.specs.declared.dispatcher.upgrade.Accepting.{Accepting}
use Rattle.h1_dispatcher.specs.declared.dispatcher.upgrade.Accepting.TheVariants.{Done, Refused}
use Rattle.h1_dispatcher.specs.declared.dispatcher.upgrade.Upgraded.{Upgraded}
use Rattle.h1_dispatcher.specs.View.{View, Asking, Stage, waiting, view_of, told_service, is_held, is_expecting, is_offered, MayBePolled}
use Rattle.h1_dispatcher.specs.Steps.{Step, Goes, IsStep, asked_to_hold, declined, let_on, turned_away, refused}

-- why an upgrade was refused, if it was
abbrev pub refused_in : on.Outcome → Option HandshakeError
refused_in (on.refused error) = Some error
refused_in out = None

-- the same of an outcome of the connection
abbrev pub refusal_of : Outcome → Option HandshakeError
refusal_of (outcomes.Refused error) = Some (failing_of error)
refusal_of outcome = None

-- the request that waits, if one does
abbrev pub waiting_in : Stage → Option Asking
waiting_in (waiting request) = Some request
waiting_in stage = None

-- the one that is held back, and may be accepted or declined
abbrev pub held_in : View → Option Asking
held_in v = if is_offered v then waiting_in v.stage else None

-- the one whose client is held back, and which may be let on or turned away
abbrev pub expecting_in : View → Option Asking
expecting_in v = if is_expecting v then waiting_in v.stage else None

-- the upgrade came to the connection, which did it, or refused it
abbrev pub Accepts : View → ℕ → View → Option HandshakeError → Type 0
Accepts v limit w None = Goes v.traced (on.accept limit) (Is on.done) w.traced × (w ≡ record v { traced = w.traced })
Accepts v limit w (Some error) = IsStep v (refused limit error) w

-- What was handed over: the request that waited; the connection, to which the upgrade came, with the step that was noted; the
-- transport and the service, as they were.
pub record HandsOver {T S L B : Type 0} (wiring : T → Wiring) (served : S → Serving Asking (FullResponse B) (FullResponse B)) (gives : B → Giving) (noted : L → Option (List Pair)) (listening : L → Bool) (v : View) (limit : ℕ) (handed : Upgraded T S L) : Type 0 where
  pub request : v.stage ≡ waiting handed.request
  pub traced : Goes v.traced (on.accept limit) (Is on.done) (traced_of noted listening handed.traced)
  pub transport : wiring handed.transport ≡ v.transport
  pub service : told_service gives (served handed.service) ≡ v.service

-- what becomes of an upgrade with this limit
abbrev pub AcceptSays : {T S C L B : Type 0} → (T → Wiring) → (S → Serving Asking (FullResponse B) (FullResponse B)) → (C → Calling Asking) → (B → Giving) → (L → Option (List Pair)) → (L → Bool) → View → ℕ → Accepting T S C L B → Type 0
AcceptSays wiring served calls gives noted listening v limit (Done handed) = HandsOver wiring served gives noted listening v limit handed
AcceptSays wiring served calls gives noted listening v limit (Refused d error) =
    IsStep v (refused limit (failing_of error)) (view_of wiring served calls gives noted listening d) × MayBePolled calls d

-- ---- where nobody asks that requests are held back

-- none is, nor is any to be
pub record HoldsNone (v : View) : Type 0 where
  pub upgrades : v.upgrades ≡ false
  pub expects : v.expects ≡ false
  pub holding : v.holding ≡ false
  pub checking : v.checking ≡ false

-- this step doesn't ask for it
abbrev pub AsksNoHold : Step → Type 0
AsksNoHold (asked_to_hold upgrades expects) = ⊥
AsksNoHold step = ⊤

-- nor does it decide about a request that is held back
abbrev pub DecidesNone : Step → Type 0
DecidesNone (asked_to_hold upgrades expects) = ⊥
DecidesNone declined = ⊥
DecidesNone let_on = ⊥
DecidesNone (turned_away request answer) = ⊥
DecidesNone (refused limit error) = ⊥
DecidesNone step = ⊤

-- so the request that waits isn't held back
pub record StaysUnheld (w : View) : Type 0 where
  pub none : HoldsNone w
  pub unheld : is_held w ≡ false
