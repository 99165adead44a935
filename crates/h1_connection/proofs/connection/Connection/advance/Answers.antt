use Rattle.std.proofs.Common.{◌≤◌, length, subst, sym, refl}
use Rattle.std.proofs.Common.{take}
use Rattle.model_h1.specs.Event as on
use Rattle.h1_connection.specs.State.{State, GoesOn, Is}
use Rattle.h1_connection.proofs.GoesOnLemmas.{goes_on, state_of}
use Rattle.h1_connection.proofs.connection.Connection.advance.Goals as goal

pub advance-requires-clause-fits : goal.advance-requires-clause-fits
advance-requires-clause-fits c = subst (λ (s : State). c.args.count ≤ length s.kept.buffered) (sym c.self.view_is) c.requires.fits

pub invariant_of-self : goal.invariant_of-self
invariant_of-self c = c.advance.ensures.sound

pub returns-clause-stands : goal.returns-clause-stands
returns-clause-stands c =
    subst (λ (s : State). GoesOn c.args.self.now (on.write c.args.count) (Is (on.gave (take c.args.count s.kept.buffered))) (state_of c.self.inside.config c.advance.new.self)) c.self.view_is
    (goes_on _ _ _ _ _ _ c.self.view_is c.requires.can_write c.advance.ensures.ok c.advance.ensures.marks c.advance.ensures.ahead refl)
