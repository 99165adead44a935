use Rattle.proxy.proofs.Work.{HasTurned}
use Rattle.proxy.proofs.proxy.Proxy.settle.Given as goal

abbrev pub invariant-loop-turn : goal.invariant-loop-turn
invariant-loop-turn l = HasTurned l.turn l.initial.self l.self
