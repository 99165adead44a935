use Rattle.std.proofs.Common.{◌≡◌, length, take, subst, refl}
use Rattle.std.specs.Prelude.{min}
use Rattle.model_h1.specs.Event as on
use Rattle.h1_connection.specs.State.{State, GoesOn, Is}
use Rattle.h1_connection.proofs.GoesOnLemmas.{goes_on, state_of}
use Rattle.h1_connection.proofs.connection.Connection.write_into.Goals as goal

pub invariant_of-self : goal.invariant_of-self
invariant_of-self c = c.write_into.ensures.sound

pub returns-clause-stands : goal.returns-clause-stands
returns-clause-stands c =
    let limit = length c.args.room.now in
    subst (λ (s : State). GoesOn c.args.self.now (on.write limit) (Is (on.gave (take limit s.kept.buffered))) (state_of c.self.inside.config c.write_into.new.self)) c.self.view_is
    (goes_on _ _ _ _ _ _ c.self.view_is c.requires.can_write c.write_into.ensures.ok c.write_into.ensures.marks c.write_into.ensures.ahead refl)

pub returns-clause-count : goal.returns-clause-count
returns-clause-count c =
    subst (λ (s : State). c.write_into.result ≡ min (length c.args.room.now) (length s.kept.buffered)) c.self.view_is c.write_into.ensures.count

pub returns-clause-given : goal.returns-clause-given
returns-clause-given c =
    subst (λ (s : State). take c.write_into.result c.write_into.new.room ≡ take (length c.args.room.now) s.kept.buffered) c.self.view_is c.write_into.ensures.given
