use Rattle.std.proofs.Common.{refl}
use Rattle.h1_connection.proofs.GoesOnLemmas.{goes_on}
use Rattle.h1_connection.proofs.connection.Connection.eof.Goals as goal

pub invariant_of-self : goal.invariant_of-self
invariant_of-self c = c.eof.ensures.sound

pub returns-clause-stands : goal.returns-clause-stands
returns-clause-stands c = goes_on _ _ _ _ _ _ c.self.view_is c.requires.can_read c.eof.ensures.ok c.eof.ensures.marks c.eof.ensures.ahead refl
