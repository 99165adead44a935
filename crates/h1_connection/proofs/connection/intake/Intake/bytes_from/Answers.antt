use Rattle.std.proofs.Common.{◌≡◌, ◌<◌, None, drop, length, subst}
use Rattle.h1_connection.specs.Stock.{Stock}
use Rattle.h1_connection.proofs.HeldLemmas.{StandsAt}
use Rattle.h1_connection.proofs.connection.intake.Intake.bytes_from.Goals as goal

pub returns-clause-first : goal.returns-clause-first
returns-clause-first c = subst (λ (s : Stock). StandsAt c.bytes_from.result.now c.args.start s.unread) c.self.view_is c.bytes_from.ensures.first

pub returns-clause-some : goal.returns-clause-some
returns-clause-some c = subst (λ (s : Stock). c.args.start < length s.unread → 0 < length c.bytes_from.result.now) c.self.view_is c.bytes_from.ensures.some

pub returns-clause-whole : goal.returns-clause-whole
returns-clause-whole c = subst (λ (s : Stock). s.piece ≡ None → c.bytes_from.result.now ≡ drop c.args.start s.unread) c.self.view_is c.bytes_from.ensures.whole
