use Rattle.std.proofs.Common.{◌≤◌, length}
use Rattle.app_get.specs.Exchange.{Goes}
use Rattle.app_get.proofs.exchange.Exchange.run.Given as goal

abbrev pub invariant-loop-turn : goal.invariant-loop-turn
invariant-loop-turn g l = (goes : Goes l.initial.self l.self) × (l._turn ≤ length goes.more)
