use Rattle.std.proofs.Common.{Some, refl}
use Rattle.std.proofs.Common.{None}
use Rattle.proxy.proofs.Moves.{goes_then, fails, client_done}
use Rattle.model_h1.specs.Event as on
use Rattle.proxy.proofs.Work.{client_less}
use Rattle.proxy.proofs.Served.{idle_serves, end_put, answered_of, no_reply_of}
use Rattle.proxy.proofs.Replies.{cut_fails, own_fails, dropped}
use Rattle.proxy.proofs.proxy.Proxy.fail.Goals as goal

pub returns-then-sent-clause-goes : goal.returns-then-sent-clause-goes
returns-then-sent-clause-goes c =
    goes_then _ _ _ (fails (record c.args.self.now { server = None }) c.requires.unsent)
    (client_done (record c.args.self.now { server = None; sent = None }) c.cut_reply.new.client c.cut_reply.ensures.brings)

pub returns-clause-goes : goal.returns-clause-goes
returns-clause-goes c = goes_then _ _ _ (fails (record c.args.self.now { server = None }) c.requires.unsent) c.in_ok-reply.ensures.goes

pub returns-then-sent-clause-works : goal.returns-then-sent-clause-works
returns-then-sent-clause-works c = client_less on.done (record c.args.self.now { server = None; sent = None }) c.cut_reply.new.client c.cut_reply.ensures.brings

pub returns-clause-works : goal.returns-clause-works
returns-clause-works c = c.in_ok-reply.ensures.works

pub returns-then-sent-clause-serves : goal.returns-then-sent-clause-serves
returns-then-sent-clause-serves c = λ s.
    let p = record c.args.self.now { sent = Some c.args.sent } in
    let q = record c.args.self.now { server = None; sent = None } in
    let answered = answered_of p c.args.sent (record { unsent = c.requires.unsent; sent = refl }) c.if-sent.true s in
    idle_serves (record q { client = c.cut_reply.new.client }) (record { unsent = c.requires.unsent; sent = refl })
    (end_put q c.cut_reply.new.client c.cut_reply.ensures.brings c.cut_reply.ensures.wants s.told answered)

pub returns-clause-serves : goal.returns-clause-serves
returns-clause-serves c = λ s.
    let p = record c.args.self.now { sent = Some c.args.sent } in
    let x = no_reply_of p c.args.sent (record { unsent = c.requires.unsent; sent = refl }) c.if-sent.false s in
    c.in_ok-reply.ensures.serves (record { unsent = c.requires.unsent; sent = refl }) (record { told = x.told; complete = x.complete; waited = x.waited })

pub returns-then-sent-clause-replies : goal.returns-then-sent-clause-replies
returns-then-sent-clause-replies c =
    cut_fails c.args.sent.is_answered c.args.self.now.client (record c.args.self.now { server = None; sent = None; client = c.cut_reply.new.client }) c.if-sent.true
    c.cut_reply.ensures.puts (record { unsent = c.requires.unsent; sent = refl; server = refl })

pub returns-clause-replies : goal.returns-clause-replies
returns-clause-replies c =
    own_fails c.args.sent.is_answered c.args.self.now.client c.reply.new.self c.if-sent.false c.in_ok-reply.ensures.replies
    (dropped (record c.args.self.now { server = None; sent = None }) c.reply.new.self c.requires.unsent refl refl c.in_ok-reply.ensures.idle c.in_ok-reply.ensures.server)
