use Rattle.std.proofs.Common.{Some, None, refl}
use Rattle.proxy.proofs.Moves.{goes_then, client_done}
use Rattle.model_h1.specs.Event as on
use Rattle.proxy.proofs.Work.{less_then, client_less}
use Rattle.proxy.proofs.Served.{told_by, answered_of, end_put, idle_serves}
use Rattle.std.proofs.Common.{[]}
use Rattle.model_proxy.specs.Parts.{ends}
use Rattle.proxy.proofs.Replies.{last_as, left_put}
use Rattle.proxy.proofs.proxy.Proxy.end_reply.Goals as goal

pub part-requires : goal.part-requires
part-requires c = record { runs = record { unsent = c.requires.runs.unsent; sent = c.requires.runs.sent } }

pub returns-clause-goes : goal.returns-clause-goes
returns-clause-goes c =
    let p = record c.args.self.now { server = Some c.args.server } in
    goes_then _ _ _ (client_done p c.leave_body.new.client c.leave_body.ensures.brings)
    (goes_then _ _ _ (client_done (record p { client = c.leave_body.new.client }) c.put_end.new.client c.in_ok-put_end.ensures.brings) c.part.ensures.goes)

pub returns-clause-works : goal.returns-clause-works
returns-clause-works c =
    let p = record c.args.self.now { server = Some c.args.server; sent = None } in
    let q = record p { client = c.leave_body.new.client } in
    less_then 0 p q _ (client_less on.done p c.leave_body.new.client c.leave_body.ensures.brings)
    (less_then 0 q (record q { client = c.put_end.new.client }) _ (client_less on.done q c.put_end.new.client c.in_ok-put_end.ensures.brings) c.part.ensures.works)

pub returns-clause-serves : goal.returns-clause-serves
returns-clause-serves c = λ answered s.
    let b = c.leave_body.new.client in
    let told = told_by on.done c.args.self.now.client b c.leave_body.ensures.brings s.told in
    let kept = (c.leave_body.ensures.wants s.told.0 s.told.1).answered (answered_of c.args.self.now c.args.sent c.requires.runs answered s) in
    let x = end_put (record c.args.self.now { client = b }) c.put_end.new.client c.in_ok-put_end.ensures.brings c.in_ok-put_end.ensures.wants told kept in
    c.part.ensures.serves
    (idle_serves (record c.args.self.now { client = c.put_end.new.client; sent = None }) (record { unsent = c.requires.runs.unsent; sent = refl })
    (record { told = x.told; answered = x.answered; complete = x.complete }))

pub returns-clause-replies : goal.returns-clause-replies
returns-clause-replies c =
    last_as [] ends c.args.self.now.client c.put_end.new.client _ c.part.ensures.client
    (left_put ends c.args.self.now.client c.leave_body.new.client c.put_end.new.client c.leave_body.ensures.puts c.in_ok-put_end.ensures.puts)
