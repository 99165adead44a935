use Rattle.std.proofs.Common.{arith}
use Rattle.h1_dispatcher.proofs.Feeds.{run_feeds, run_bound, held_bound}
use Rattle.h1_dispatcher.proofs.Once.{run_has_one}
use Rattle.h1_dispatcher.proofs.laws.runs_feed_bodies.Goals as goal

pub returns-clause-runs : goal.returns-clause-runs
returns-clause-runs c = run_feeds

pub returns-clause-wanted : goal.returns-clause-wanted
returns-clause-wanted c = λ v w piece is. is.0

pub returns-clause-new : goal.returns-clause-new
returns-clause-new c = λ transport service settings peer noted listens body. (tt, omega arith)

pub returns-clause-bound : goal.returns-clause-bound
returns-clause-bound c = run_bound

pub returns-clause-held : goal.returns-clause-held
returns-clause-held c = held_bound

pub returns-clause-once : goal.returns-clause-once
returns-clause-once c = λ v w steps body trace stands noted run none. run_has_one v w steps body trace stands noted run none
