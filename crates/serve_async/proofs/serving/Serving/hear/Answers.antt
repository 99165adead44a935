-- It was asked to end.
use Rattle.serve_async.proofs.Lives.{leads_drained}
use Rattle.serve_async.proofs.serving.Serving.hear.Goals as goal

pub returns-in-Ready-clause-leads : goal.returns-in-Ready-clause-leads
returns-in-Ready-clause-leads g c = leads_drained g.J.Job.polled g.J.Job.drained c.args.self.now.live.job c.drain.new.self.job c.drain.ensures
