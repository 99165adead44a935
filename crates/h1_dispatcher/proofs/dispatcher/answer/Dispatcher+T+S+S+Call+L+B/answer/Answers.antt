use Rattle.std.proofs.Common.{Ok, Err, refl, ap, arith}
use Rattle.futures.specs.declared.task.Poll.TheVariants.{Ready, Pending}
use Rattle.h1_dispatcher.specs.declared.dispatcher.Work.TheVariants.{Calling, Replying}
use Rattle.h1_dispatcher.specs.View.{view_of, stage_of, told_response}
use Rattle.h1_dispatcher.specs.Steps.{answered}
use Rattle.h1_dispatcher.proofs.Told.{told_answer}
use Rattle.h1_dispatcher.proofs.Turns.{waits_call, feed_then, step_then}
use Rattle.h1_dispatcher.proofs.Moves.{polled}
use Rattle.h1_dispatcher.proofs.dispatcher.answer.Dispatcher+T+S+S+Call+L+B.answer.Goals as goal

pub returns-in-Pending-clause-says : goal.returns-in-Pending-clause-says
returns-in-Pending-clause-says g c =
    let v = view_of g.T.Transport.wiring g.S.Service.served g.S.Service.calling g.B.MessageBody.gives g.L.Recorder.noted g.L.Recorder.is_listening c.args.self.now in
    let u = view_of g.T.Transport.wiring g.S.Service.served g.S.Service.calling g.B.MessageBody.gives g.L.Recorder.noted g.L.Recorder.is_listening (record c.args.self.now { service = c.poll_call.new.self; queue = c.poll_call.new.lent; work = Calling c.poll_call.new.call }) in
    let w = view_of g.T.Transport.wiring g.S.Service.served g.S.Service.calling g.B.MessageBody.gives g.L.Recorder.noted g.L.Recorder.is_listening c.feed.new.self in
    let was = ap (λ x. stage_of g.S.Service.calling g.B.MessageBody.gives x) c.in-Calling.is in
    feed_then 3 (omega arith) v u w (answered Pending) c.feed.result
    (polled v u _ _ Pending c.requires.running c.requires.allowed was (told_answer g.B.MessageBody.gives _ _ Pending c.in-Pending.ensures.says) c.in-Pending.ensures.polls.takes c.in-Pending.ensures.polls.bound refl) tt
    (waits_call v _ c.requires.allowed was) c.feed.ensures.says

pub returns-in-Ready-Ok-clause-says : goal.returns-in-Ready-Ok-clause-says
returns-in-Ready-Ok-clause-says g c =
    let v = view_of g.T.Transport.wiring g.S.Service.served g.S.Service.calling g.B.MessageBody.gives g.L.Recorder.noted g.L.Recorder.is_listening c.args.self.now in
    let u = view_of g.T.Transport.wiring g.S.Service.served g.S.Service.calling g.B.MessageBody.gives g.L.Recorder.noted g.L.Recorder.is_listening (record c.args.self.now { service = c.poll_call.new.self; queue = c.poll_call.new.lent; work = Replying c.in-Ready-Ok.response }) in
    let w = view_of g.T.Transport.wiring g.S.Service.served g.S.Service.calling g.B.MessageBody.gives g.L.Recorder.noted g.L.Recorder.is_listening c.hand_on.new.self in
    let was = ap (λ x. stage_of g.S.Service.calling g.B.MessageBody.gives x) c.in-Calling.is in
    step_then 3 (omega arith) v u w (answered (Ready (Ok (told_response g.B.MessageBody.gives c.in-Ready-Ok.response)))) c.hand_on.result
    (polled v u _ (g.S.Service.calling c.poll_call.new.call).took (Ready (Ok (told_response g.B.MessageBody.gives c.in-Ready-Ok.response))) c.requires.running c.requires.allowed was (told_answer g.B.MessageBody.gives _ _ (Ready (Ok c.in-Ready-Ok.response)) (rw c.in-Ready-Ok.field-0-is at c.in-Ready-Ok.ensures.says)) c.in-Ready-Ok.ensures.polls.takes c.in-Ready-Ok.ensures.polls.bound refl) tt
    refl c.hand_on.ensures.says c.hand_on.ensures.handed

pub returns-in-Ready-Err-clause-says : goal.returns-in-Ready-Err-clause-says
returns-in-Ready-Err-clause-says g c =
    let v = view_of g.T.Transport.wiring g.S.Service.served g.S.Service.calling g.B.MessageBody.gives g.L.Recorder.noted g.L.Recorder.is_listening c.args.self.now in
    let u = view_of g.T.Transport.wiring g.S.Service.served g.S.Service.calling g.B.MessageBody.gives g.L.Recorder.noted g.L.Recorder.is_listening (record c.args.self.now { service = c.poll_call.new.self; queue = c.poll_call.new.lent; work = Replying c.in-Ready-Err.response }) in
    let w = view_of g.T.Transport.wiring g.S.Service.served g.S.Service.calling g.B.MessageBody.gives g.L.Recorder.noted g.L.Recorder.is_listening c.hand_on-in-Ready-Err.new.self in
    let was = ap (λ x. stage_of g.S.Service.calling g.B.MessageBody.gives x) c.in-Calling.is in
    step_then 3 (omega arith) v u w (answered (Ready (Err (told_response g.B.MessageBody.gives c.in-Ready-Err.response)))) c.hand_on-in-Ready-Err.result
    (polled v u _ (g.S.Service.calling c.poll_call.new.call).took (Ready (Err (told_response g.B.MessageBody.gives c.in-Ready-Err.response))) c.requires.running c.requires.allowed was (told_answer g.B.MessageBody.gives _ _ (Ready (Err c.in-Ready-Err.response)) (rw c.in-Ready-Err.field-0-is at c.in-Ready-Err.ensures.says)) c.in-Ready-Err.ensures.polls.takes c.in-Ready-Err.ensures.polls.bound refl) tt
    refl c.hand_on-in-Ready-Err.ensures.says c.hand_on-in-Ready-Err.ensures.handed
