use Rattle.serve_blocking.proofs.Completed.{doubted_as, noted_as, completes_here}
use Rattle.serve_blocking.proofs.Followed.{follows_then}
use Rattle.serve_blocking.proofs.connection.ask.Goals as goal

pub handle-handled-requires-clause-doubted : goal.handle-handled-requires-clause-doubted
handle-handled-requires-clause-doubted g c = doubted_as c.args.body.now c.args.item.now _ c.new-request.ensures c.requires.doubted

pub returns-clause-handled : goal.returns-clause-handled
returns-clause-handled g c = noted_as _ _ c.args.item.now _ c.new-request.ensures c.handle-handled.ensures.handled

pub returns-clause-follows : goal.returns-clause-follows
returns-clause-follows g c = follows_then _ _ _ c.handle-handled.ensures.follows c.complete.ensures.follows

pub returns-clause-completed : goal.returns-clause-completed
returns-clause-completed g c =
    completes_here c.complete.result c.handle-handled.result _ _ _ c.handle-handled.ensures.follows c.complete.ensures.follows c.complete.ensures.answers
