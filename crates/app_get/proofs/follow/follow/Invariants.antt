use Rattle.app_get.proofs.Redirecting.{HasGone}
use Rattle.app_get.proofs.follow.follow.Given as goal

abbrev pub invariant-loop-turn : goal.invariant-loop-turn
invariant-loop-turn g l = HasGone (g.A.Asks.asked l.initial.asks) l.url l.method l.follows l._turn (g.A.Asks.asked l.asks) l.stage
