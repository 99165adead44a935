-- The job ended by the first poll, or by the second after the first.
use Rattle.serve_async.proofs.Lives.{leads_polled, ends_polled, ends_on}
use Rattle.serve_async.proofs.serving.Serving.poll_job.Goals as goal

pub returns-in-Ready-clause-ended : goal.returns-in-Ready-clause-ended
returns-in-Ready-clause-ended g c = (
  c.in-Ready.field-0,
  ends_polled g.J.Job.polled g.J.Job.drained c.args.self.now.live.job c.poll.new.self.job c.args.moment c.poll.new.cx c.in-Ready.field-0 c.in-Ready.ensures.says,
)

pub returns-in-Ready-poll-clause-ended : goal.returns-in-Ready-poll-clause-ended
returns-in-Ready-poll-clause-ended g c =
    let output = c.in-Ready-poll.field-0 in (
      output,
      ends_on g.J.Job.polled g.J.Job.drained c.args.self.now.live.job c.poll.new.self.job c.poll-2.new.self.job c.args.moment output
          (leads_polled g.J.Job.polled g.J.Job.drained c.args.self.now.live.job c.poll.new.self.job c.args.moment c.poll.new.cx c.poll.result c.poll.ensures.says)
          (ends_polled g.J.Job.polled g.J.Job.drained c.poll.new.self.job c.poll-2.new.self.job c.args.moment c.poll-2.new.cx output c.in-Ready-poll.ensures.says),
    )
