use Rattle.std.proofs.Common.{refl, []}
use Rattle.proxy.proofs.Moves.{goes_then, client_done}
use Rattle.model_h1.specs.Event as on
use Rattle.proxy.proofs.Work.{less_then, client_less, noted_less}
use Rattle.proxy.proofs.Served.{noted_idle, noted_serves, idle_serves, head_put}
use Rattle.std.proofs.Common.{subst}
use Rattle.proxy.proofs.Replies.{left_put, last_as, noted_client, noted_server}
use Rattle.proxy.specs.Replies.{refusal_part}
use Rattle.model_h1.specs.Answer.{AnswerHead, size_of}
use Rattle.model_proxy.specs.Parts.{begins}
use Rattle.proxy.specs.Puts.{MayPut}
use Rattle.proxy.proofs.proxy.Proxy.reply.Goals as goal

pub returns-clause-goes : goal.returns-clause-goes
returns-clause-goes c =
    goes_then _ _ _ (client_done c.args.self.now c.leave_body.new.client c.leave_body.ensures.brings)
    (goes_then _ _ _ (client_done (record c.args.self.now { client = c.leave_body.new.client }) c.put_head.new.client c.in_ok-put_head.ensures.brings)
    c.in_ok-note_reply.ensures.goes)

pub returns-clause-works : goal.returns-clause-works
returns-clause-works c =
    let q = record c.args.self.now { client = c.leave_body.new.client } in
    less_then 0 c.args.self.now q _ (client_less on.done c.args.self.now c.leave_body.new.client c.leave_body.ensures.brings)
    (less_then 0 q (record q { client = c.put_head.new.client }) _ (client_less on.done q c.put_head.new.client c.in_ok-put_head.ensures.brings)
    (noted_less _ _ c.in_ok-note_reply.ensures.noted))

pub returns-clause-serves : goal.returns-clause-serves
returns-clause-serves c = λ idle x.
    let q = record c.args.self.now { client = c.put_head.new.client } in
    noted_serves q _ c.in_ok-note_reply.ensures.noted
    (idle_serves q (record { unsent = idle.unsent; sent = idle.sent })
    (head_put _ c.args.self.now c.leave_body.new.client c.put_head.new.client c.leave_body.ensures.brings c.leave_body.ensures.wants c.in_ok-put_head.ensures.brings
    c.in_ok-put_head.ensures.wants refl x))

pub returns-clause-replies : goal.returns-clause-replies
returns-clause-replies c =
    last_as [] _ c.args.self.now.client c.put_head.new.client _ (noted_client (record c.args.self.now { client = c.put_head.new.client }) c.note_reply.new.self c.in_ok-note_reply.ensures.noted)
    (left_put (refusal_part c.args.refusal) c.args.self.now.client c.leave_body.new.client c.put_head.new.client c.leave_body.ensures.puts
    (subst (λ (h : AnswerHead). MayPut (begins (record { head = h; size = size_of 0 })) c.leave_body.new.client c.put_head.new.client) c.head-head.ensures c.in_ok-put_head.ensures.puts))

pub returns-clause-idle : goal.returns-clause-idle
returns-clause-idle c = λ idle.
    noted_idle (record c.args.self.now { client = c.put_head.new.client }) _ c.in_ok-note_reply.ensures.noted
    (record { unsent = idle.unsent; sent = idle.sent })

pub returns-clause-server : goal.returns-clause-server
returns-clause-server c = noted_server (record c.args.self.now { client = c.put_head.new.client }) _ c.in_ok-note_reply.ensures.noted
