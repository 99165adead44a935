use Rattle.std.proofs.Common.{refl}
use Rattle.h1_connection.proofs.GoesOnLemmas.{goes_on}
use Rattle.h1_connection.proofs.connection.Connection.drop_body.Goals as goal

pub invariant_of-self : goal.invariant_of-self
invariant_of-self c = c.drop_body.ensures.sound

pub returns-clause-stands : goal.returns-clause-stands
returns-clause-stands c = goes_on _ _ _ _ _ _ c.self.view_is c.requires.can_pull c.drop_body.ensures.ok c.drop_body.ensures.marks c.drop_body.ensures.ahead refl
