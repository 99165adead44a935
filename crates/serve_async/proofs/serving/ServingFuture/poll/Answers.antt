-- The job ended by a poll, after it was asked to end or not.
use Rattle.std.proofs.Common.{inl}
use Rattle.net_sockets.specs.Moments.{last_moment}
use Rattle.serve_async.proofs.Lives.{job_ends_on}
use Rattle.serve_async.proofs.serving.ServingFuture.poll.Goals as goal

pub returns-in-Ready-clause-ended : goal.returns-in-Ready-clause-ended
returns-in-Ready-clause-ended g c =
    inl (job_ends_on g.J.Job.polled g.J.Job.drained c.args.self.now.live.job c.hear.new.self.live.job c.poll_job.new.self.live.job c.now_ms-moment.result
    (last_moment c.poll_job.new.self.clock) (rw c.poll_job.ensures.same c.now_ms-moment.ensures.last) c.hear.ensures.leads c.in-Ready.ensures.ended)
