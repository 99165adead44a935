use Rattle.std.proofs.Common.{Ok, Err, refl, sym, ap, ◌∙◌, arith}
use Rattle.futures.specs.declared.task.Poll.TheVariants.{Ready, Pending}
use Rattle.h1_dispatcher.specs.declared.dispatcher.Work.TheVariants.{Calling, Replying}
use Rattle.h1_dispatcher.specs.View.{view_of, stage_of, told_response, told_service}
use Rattle.h1_dispatcher.specs.Steps.{ready}
use Rattle.h1_dispatcher.proofs.Told.{told_ready, told_call}
use Rattle.h1_dispatcher.proofs.Turns.{now_waiting, waiting_awaits, waits_ready, feed_then, step_then, called_then}
use Rattle.h1_dispatcher.proofs.dispatcher.serve.Dispatcher+T+S+S+Call+L+B.ask.Goals as goal

pub feed-requires-clause-awaits : goal.feed-requires-clause-awaits
feed-requires-clause-awaits g c = waiting_awaits _ c.requires.waits

pub returns-in-Pending-clause-says : goal.returns-in-Pending-clause-says
returns-in-Pending-clause-says g c =
    let v = view_of g.T.Transport.wiring g.S.Service.served g.S.Service.calling g.B.MessageBody.gives g.L.Recorder.noted g.L.Recorder.is_listening c.args.self.now in
    let u = view_of g.T.Transport.wiring g.S.Service.served g.S.Service.calling g.B.MessageBody.gives g.L.Recorder.noted g.L.Recorder.is_listening (record c.args.self.now { service = c.poll_ready.new.self }) in
    let w = view_of g.T.Transport.wiring g.S.Service.served g.S.Service.calling g.B.MessageBody.gives g.L.Recorder.noted g.L.Recorder.is_listening c.feed.new.self in
    let r = now_waiting v.stage c.requires.waits in
    feed_then 4 (omega arith) v u w (ready r.0 Pending) c.feed.result
    ((c.requires.running, r.1, c.requires.allowed, c.requires.room, c.requires.told, c.requires.unheld), tt, told_ready g.B.MessageBody.gives _ _ Pending c.in-Pending.ensures.says, ap (λ x. record v { service = u.service; stage = x }) r.1) tt
    (waits_ready v r.0 c.requires.allowed c.requires.room c.requires.unheld r.1) c.feed.ensures.says

pub returns-in-Ready-Err-clause-says : goal.returns-in-Ready-Err-clause-says
returns-in-Ready-Err-clause-says g c =
    let v = view_of g.T.Transport.wiring g.S.Service.served g.S.Service.calling g.B.MessageBody.gives g.L.Recorder.noted g.L.Recorder.is_listening c.args.self.now in
    let u = view_of g.T.Transport.wiring g.S.Service.served g.S.Service.calling g.B.MessageBody.gives g.L.Recorder.noted g.L.Recorder.is_listening (record c.args.self.now { service = c.poll_ready.new.self; work = Replying c.in-Ready-Err.response }) in
    let w = view_of g.T.Transport.wiring g.S.Service.served g.S.Service.calling g.B.MessageBody.gives g.L.Recorder.noted g.L.Recorder.is_listening c.hand_on.new.self in
    let r = now_waiting v.stage c.requires.waits in
    step_then 4 (omega arith) v u w (ready r.0 (Ready (Err (told_response g.B.MessageBody.gives c.in-Ready-Err.response)))) c.hand_on.result
    ((c.requires.running, r.1, c.requires.allowed, c.requires.room, c.requires.told, c.requires.unheld), tt, told_ready g.B.MessageBody.gives _ _ (Ready (Err c.in-Ready-Err.response)) (rw c.in-Ready-Err.field-0-is at c.in-Ready-Err.ensures.says), refl) tt
    refl c.hand_on.ensures.says c.hand_on.ensures.handed

pub returns-in-Waiting-clause-says : goal.returns-in-Waiting-clause-says
returns-in-Waiting-clause-says g c =
    let v = view_of g.T.Transport.wiring g.S.Service.served g.S.Service.calling g.B.MessageBody.gives g.L.Recorder.noted g.L.Recorder.is_listening c.args.self.now in
    let u = view_of g.T.Transport.wiring g.S.Service.served g.S.Service.calling g.B.MessageBody.gives g.L.Recorder.noted g.L.Recorder.is_listening (record c.args.self.now { service = c.call.new.self; work = Calling c.call.result }) in
    let w = view_of g.T.Transport.wiring g.S.Service.served g.S.Service.calling g.B.MessageBody.gives g.L.Recorder.noted g.L.Recorder.is_listening c.answer.new.self in
    let waits = ap (λ x. stage_of g.S.Service.calling g.B.MessageBody.gives x) (sym c.replace.ensures.value ∙ c.in-Waiting.is) in
    called_then v u w c.in-Waiting.request (g.S.Service.calling c.call.result).took c.answer.result (
      (c.requires.running, waits, c.requires.allowed, c.requires.room, c.requires.told, c.requires.unheld),
      record { between = told_service g.B.MessageBody.gives (g.S.Service.served c.poll_ready.new.self); is_ready = told_ready g.B.MessageBody.gives _ _ (Ready (Ok tt)) (rw c.in-Ready-Ok.field-0-is at c.in-Ready-Ok.ensures.says); begun = told_call g.B.MessageBody.gives _ _ c.in-Waiting.request c.call.ensures.says },
      ((g.S.Service.calling c.call.result).took, c.call.ensures.begins.took, refl),
    )
    c.requires.allowed c.requires.room c.requires.unheld c.requires.allowed waits refl c.answer.ensures.says
