use Rattle.std.proofs.Common.{ap}
use Rattle.std.proofs.Common.{refl}
use Rattle.std.proofs.Common.{Some, None}
use Rattle.proxy.specs.declared.proxy.SentRequest.{SentRequest}
use Rattle.proxy.proofs.Moves.{goes_then, fails, resent}
use Rattle.proxy.proofs.Work.{less_then, closed_less, drop_sent, remarked, broken_mark}
use Rattle.proxy.proofs.Served.{with_server, resent_serves, no_reply_of}
use Rattle.std.proofs.Common.{true, []}
use Rattle.proxy.proofs.Puts.{puts_none, hands_same}
use Rattle.proxy.proofs.Replies.{kept_breaks, own_breaks, goes_as, dropped}
use Rattle.proxy.specs.Replies.{marks_of}
use Rattle.proxy.proofs.Below.{below_same, below_closed}
use Rattle.proxy.proofs.proxy.Proxy.break_body.Goals as goal

pub returns-then-sent-clause-goes : goal.returns-then-sent-clause-goes
returns-then-sent-clause-goes c =
    let s : SentRequest = record c.args.sent { is_broken = true } in
    resent (record c.args.self.now { server = Some c.args.server; sent = Some s }) s c.broken.result
    (record { unsent = c.requires.runs.unsent; sent = refl }) c.broken.ensures.whole c.broken.ensures.broken

pub returns-clause-goes : goal.returns-clause-goes
returns-clause-goes c =
    goes_then _ _ _ (fails (record c.args.self.now { server = Some c.args.server; sent = Some (record c.args.sent { is_broken = true }) }) c.requires.runs.unsent) c.in_ok-reply.ensures.goes

pub returns-then-sent-clause-works : goal.returns-then-sent-clause-works
returns-then-sent-clause-works c = λ unended unbroken.
    remarked 1 (record c.args.self.now { server = Some c.args.server }) c.args.sent c.broken.result
    (record { unsent = c.requires.runs.unsent; sent = c.requires.runs.sent }) (broken_mark c.args.sent c.broken.result unended unbroken c.broken.ensures.broken)

pub returns-clause-works : goal.returns-clause-works
returns-clause-works c = λ unended unbroken.
    let p = record c.args.self.now { server = None } in
    less_then 1 (record c.args.self.now { server = Some c.args.server }) p _ (closed_less c.args.self.now c.args.server)
    (less_then 0 p (record p { sent = None }) _ (drop_sent p) c.in_ok-reply.ensures.works)

pub returns-then-sent-clause-serves : goal.returns-then-sent-clause-serves
returns-then-sent-clause-serves c = λ s.
    with_server (record c.args.self.now { sent = Some c.broken.result }) (Some c.args.server)
    (resent_serves c.args.self.now c.args.sent c.broken.result c.requires.runs c.broken.ensures.marks s)

pub returns-clause-serves : goal.returns-clause-serves
returns-clause-serves c = λ s.
    let x = no_reply_of c.args.self.now c.args.sent c.requires.runs c.if-sent.false s in
    c.in_ok-reply.ensures.serves (record { unsent = c.requires.runs.unsent; sent = refl }) (record { told = x.told; complete = x.complete; waited = x.waited })

pub returns-then-sent-clause-replies : goal.returns-then-sent-clause-replies
returns-then-sent-clause-replies c =
    let q = record c.args.self.now { server = Some c.args.server; sent = Some c.broken.result } in
    kept_breaks c.args.sent.is_answered c.args.sent c.args.server c.args.self.now.client q c.if-sent.true (puts_none c.args.self.now.client)
    (goes_as q c.broken.result c.args.server c.args.server (marks_of c.args.sent) [] (record { unsent = c.requires.runs.unsent; sent = refl })
    c.broken.ensures.marks refl (hands_same c.args.server))
    (ap Some c.broken.ensures.same)

pub returns-clause-replies : goal.returns-clause-replies
returns-clause-replies c =
    own_breaks c.args.sent.is_answered c.args.sent c.args.server c.args.self.now.client c.reply.new.self c.if-sent.false c.in_ok-reply.ensures.replies
    (dropped (record c.args.self.now { server = None; sent = None }) c.reply.new.self c.requires.runs.unsent refl refl c.in_ok-reply.ensures.idle c.in_ok-reply.ensures.server)

pub returns-then-sent-clause-below : goal.returns-then-sent-clause-below
returns-then-sent-clause-below c = below_same (Some c.args.server)

pub returns-clause-below : goal.returns-clause-below
returns-clause-below c = below_closed (Some c.args.server) _ c.in_ok-reply.ensures.server
