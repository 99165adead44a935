use Rattle.proxy.proofs.Moves.{goes_then}
use Rattle.proxy.proofs.Work.{less_then, noted_less}
use Rattle.proxy.proofs.Served.{noted_serves}
use Rattle.proxy.proofs.Replies.{head_as, noted_client, noted_head}
use Rattle.proxy.proofs.Below.{below_into}
use Rattle.std.proofs.Common.{Some}
use Rattle.proxy.proofs.Replies.{noted_server}
use Rattle.proxy.proofs.proxy.Proxy.pass_noted.Goals as goal

pub returns-clause-goes : goal.returns-clause-goes
returns-clause-goes c = goes_then _ _ _ c.in_ok-pass_head.ensures.goes c.in_ok-note_reply.ensures.goes

pub returns-clause-works : goal.returns-clause-works
returns-clause-works c = less_then 0 _ c.pass_head.new.self _ c.in_ok-pass_head.ensures.works (noted_less _ _ c.in_ok-note_reply.ensures.noted)

pub returns-clause-serves : goal.returns-clause-serves
returns-clause-serves c = λ x told. noted_serves c.pass_head.new.self _ c.in_ok-note_reply.ensures.noted (c.in_ok-pass_head.ensures.serves x told)

pub returns-clause-replies : goal.returns-clause-replies
returns-clause-replies c = λ a read says.
    let x = c.in_ok-pass_head.ensures.replies a read says in (
      head_as _ _ c.args.self.now.client c.pass_head.new.self.client _ (noted_client c.pass_head.new.self c.note_reply.new.self c.in_ok-note_reply.ensures.noted) x.0,
      noted_head c.args.sent a c.args.server c.pass_head.new.self c.note_reply.new.self c.in_ok-note_reply.ensures.noted x.1,
    )

pub returns-clause-below : goal.returns-clause-below
returns-clause-below c =
    below_into (Some c.args.server) c.pass_head.new.self.server _ (noted_server c.pass_head.new.self c.note_reply.new.self c.in_ok-note_reply.ensures.noted)
    c.in_ok-pass_head.ensures.below
