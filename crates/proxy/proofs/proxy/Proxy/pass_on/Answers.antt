use Rattle.std.proofs.Common.{sym}
use Rattle.proxy.proofs.Moves.{of_server, of_no_server}
use Rattle.std.proofs.Common.{Some, None, true, arith}
use Rattle.proxy.proofs.Work.{works, works_of_server, less_then, over_sent}
use Rattle.proxy.proofs.Served.{with_server, serves_of_sent}
use Rattle.proxy.proofs.Replies.{replies_of_server, fails_replies}
use Rattle.proxy.proofs.Below.{below_of, fails_below}
use Rattle.proxy.proofs.proxy.Proxy.pass_on.Goals as goal

pub pass-requires : goal.pass-requires
pass-requires c = record { runs = record { unsent = c.requires.runs.unsent; sent = c.requires.runs.sent } }

pub fail-requires : goal.fail-requires
fail-requires c = record { unsent = c.requires.runs.unsent }

pub returns-in_ok-more-in-Some-clause-goes : goal.returns-in_ok-more-in-Some-clause-goes
returns-in_ok-more-in-Some-clause-goes c = of_server c.args.self.now _ c.in-Some.server (sym c.in-Some.ensures.value) c.in_ok-more-in-Some.ensures.goes

pub returns-in_ok-fail-in-None-clause-goes : goal.returns-in_ok-fail-in-None-clause-goes
returns-in_ok-fail-in-None-clause-goes c = of_no_server c.args.self.now _ _ (sym c.in-None.ensures.value) c.in_ok-fail-in-None.ensures.goes

pub returns-in_ok-more-in-Some-clause-works : goal.returns-in_ok-more-in-Some-clause-works
returns-in_ok-more-in-Some-clause-works c =
    works_of_server c.in_ok-more-in-Some.more c.args.self.now c.pass.new.self (Some c.in-Some.server) (sym c.in-Some.ensures.value) c.in_ok-more-in-Some.ensures.works

pub returns-in_ok-fail-in-None-clause-works : goal.returns-in_ok-fail-in-None-clause-works
returns-in_ok-fail-in-None-clause-works c =
    let p = record c.args.self.now { server = None } in
    works_of_server true c.args.self.now _ None (sym c.in-None.ensures.value)
    (works 1 p _ (omega arith) (less_then 1 p (record p { sent = None }) _ (over_sent p c.args.sent (record { unsent = c.requires.runs.unsent; sent = c.requires.runs.sent })) c.in_ok-fail-in-None.ensures.works))

pub returns-in_ok-more-in-Some-clause-serves : goal.returns-in_ok-more-in-Some-clause-serves
returns-in_ok-more-in-Some-clause-serves c = λ s. c.in_ok-more-in-Some.ensures.serves (with_server c.args.self.now c.take.new.self s)

pub returns-in_ok-fail-in-None-clause-serves : goal.returns-in_ok-fail-in-None-clause-serves
returns-in_ok-fail-in-None-clause-serves c =
    serves_of_sent c.args.self.now _ c.args.sent c.requires.runs.sent
    (λ s. c.in_ok-fail-in-None.ensures.serves (with_server (record c.args.self.now { sent = Some c.args.sent }) c.take.new.self s))

pub returns-in_ok-more-in-Some-clause-replies : goal.returns-in_ok-more-in-Some-clause-replies
returns-in_ok-more-in-Some-clause-replies c = replies_of_server c.args.self.now c.pass.new.self (Some c.in-Some.server) (sym c.in-Some.ensures.value) c.in_ok-more-in-Some.ensures.replies

pub returns-in_ok-fail-in-None-clause-replies : goal.returns-in_ok-fail-in-None-clause-replies
returns-in_ok-fail-in-None-clause-replies c =
    replies_of_server c.args.self.now c.fail.new.self None (sym c.in-None.ensures.value)
    (fails_replies c.args.self.now c.fail.new.self c.args.sent None c.requires.runs (λ _. tt) (λ _. tt) c.in_ok-fail-in-None.ensures.replies)

pub returns-in_ok-more-in-Some-clause-below : goal.returns-in_ok-more-in-Some-clause-below
returns-in_ok-more-in-Some-clause-below c = below_of c.args.self.now.server c.in-Some.server _ (sym c.in-Some.ensures.value) c.in_ok-more-in-Some.ensures.below

pub returns-in_ok-fail-in-None-clause-below : goal.returns-in_ok-fail-in-None-clause-below
returns-in_ok-fail-in-None-clause-below c = fails_below c.args.sent.is_answered _ c.args.self.now.server _ c.in_ok-fail-in-None.ensures.replies
