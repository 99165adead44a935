use Rattle.std.proofs.Common.{ap}
use Rattle.h1_connection.proofs.TickLemmas.{closing_change}
use Rattle.h1_connection.specs.declared.connection.parts.Parts.{Parts}
use Rattle.h1_connection.proofs.connection.parts.Parts.expire.Goals as goal

pub returns-then-is_some-clause-ok : goal.returns-then-is_some-clause-ok
returns-then-is_some-clause-ok c =
    closing_change c.args.config.now c.args.self.now c.abandon.new.self _ _ _ _ _ c.closing.ensures c.is_some.ensures c.if-is_some.true c.abandon.ensures.changes

pub returns-then-is_some-clause-marks : goal.returns-then-is_some-clause-marks
returns-then-is_some-clause-marks c = ap (λ (p : Parts). p.output.marks) c.abandon.ensures.parts

pub returns-then-is_some-clause-ahead : goal.returns-then-is_some-clause-ahead
returns-then-is_some-clause-ahead c = ap (λ (p : Parts). p.input.ahead) c.abandon.ensures.parts
