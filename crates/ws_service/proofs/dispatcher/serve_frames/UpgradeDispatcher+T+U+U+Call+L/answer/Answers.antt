use Rattle.std.proofs.Common.{Ok, Err, [], refl, inr, arith}
use Rattle.futures.specs.declared.task.Poll.TheVariants.{Ready, Pending}
use Rattle.ws_service.specs.declared.error.UpgradeError.TheVariants.{Upgrade}
use Rattle.ws_service.specs.declared.dispatcher.Work.TheVariants.{Free, Calling, Sending}
use Rattle.ws_service.specs.View.{view_of}
use Rattle.ws_service.specs.Steps.{answered}
use Rattle.ws_service.proofs.Runs.{ends_by}
use Rattle.ws_service.proofs.Moves.{now_calling}
use Rattle.ws_service.proofs.Turns.{pending_then, step_then}
use Rattle.ws_service.proofs.dispatcher.serve_frames.UpgradeDispatcher+T+U+U+Call+L.answer.Goals as goal

pub returns-in-Pending-clause-says : goal.returns-in-Pending-clause-says
returns-in-Pending-clause-says g c =
    let v = view_of g.T.Transport.wiring g.U.Service.served g.L.Recorder.noted g.L.Recorder.is_listening c.args.self.now in
    let u = view_of g.T.Transport.wiring g.U.Service.served g.L.Recorder.noted g.L.Recorder.is_listening (record c.args.self.now { service = c.poll_call.new.self; work = Calling c.poll_call.new.call }) in
    let w = view_of g.T.Transport.wiring g.U.Service.served g.L.Recorder.noted g.L.Recorder.is_listening c.read.new.self in
    pending_then 2 (omega arith) v u w (answered Pending) c.read.result
    (record { running = c.requires.running; opened = c.requires.goes_on }, now_calling v.stage c.requires.calls, c.in-Pending.ensures.says, refl) tt
    ([], refl) c.read.ensures.says

pub returns-in-Ready-Ok-clause-says : goal.returns-in-Ready-Ok-clause-says
returns-in-Ready-Ok-clause-says g c =
    let v = view_of g.T.Transport.wiring g.U.Service.served g.L.Recorder.noted g.L.Recorder.is_listening c.args.self.now in
    let u = view_of g.T.Transport.wiring g.U.Service.served g.L.Recorder.noted g.L.Recorder.is_listening (record c.args.self.now { service = c.poll_call.new.self; work = Sending c.in-Ready-Ok.message }) in
    let w = view_of g.T.Transport.wiring g.U.Service.served g.L.Recorder.noted g.L.Recorder.is_listening c.send.new.self in
    step_then 1 2 (omega arith) v u w (answered (Ready (Ok c.in-Ready-Ok.message))) c.send.result
    (record { running = c.requires.running; opened = c.requires.goes_on }, now_calling v.stage c.requires.calls, rw c.in-Ready-Ok.field-0-is at c.in-Ready-Ok.ensures.says, refl) tt
    c.send.ensures.says

pub returns-in-Ready-Err-clause-says : goal.returns-in-Ready-Err-clause-says
returns-in-Ready-Err-clause-says g c =
    let v = view_of g.T.Transport.wiring g.U.Service.served g.L.Recorder.noted g.L.Recorder.is_listening c.args.self.now in
    let w = view_of g.T.Transport.wiring g.U.Service.served g.L.Recorder.noted g.L.Recorder.is_listening (record c.args.self.now { service = c.poll_call.new.self; work = Free }) in
    ends_by 2 (omega arith) v w (answered (Ready (Err c.in-Ready-Err.error))) (Err (Upgrade c.in-Ready-Err.error))
    (record { running = c.requires.running; opened = c.requires.goes_on }, now_calling v.stage c.requires.calls, rw c.in-Ready-Err.field-0-is at c.in-Ready-Err.ensures.says, refl)
    (inr ([], refl, tt))
