use Rattle.std.proofs.Common.{◌<◌, length, refl, subst}
use Rattle.h1_connection.specs.State.{State}
use Rattle.h1_connection.proofs.HeldLemmas.{StandsAt, stands_fits, held_whole}
use Rattle.h1_connection.proofs.connection.Connection.held_bytes.Goals as goal

pub returns-clause-first : goal.returns-clause-first
returns-clause-first c = subst (λ (s : State). StandsAt c.bytes_from.result.now c.args.start s.kept.unread) c.self.view_is c.bytes_from.ensures.first

pub returns-clause-some : goal.returns-clause-some
returns-clause-some c =
    subst (λ (s : State). c.args.start < length s.kept.unread → 0 < length c.bytes_from.result.now) c.self.view_is c.bytes_from.ensures.some

pub returns-clause-fits : goal.returns-clause-fits
returns-clause-fits c = stands_fits _ _ _ (returns-clause-first c)

pub returns-clause-whole : goal.returns-clause-whole
returns-clause-whole c =
    held_whole c.self.inside.config c.self.inside.parts c.args.self.now _ c.args.start _ c.self.view_is refl c.self.invariant c.bytes_from.ensures.whole
