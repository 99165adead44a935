use Rattle.std.proofs.Common.{Err, [], refl, sym, ap, ◌∙◌, inl, arith}
use Rattle.futures.specs.declared.task.Poll.TheVariants.{Ready, Pending}
use Rattle.ws_service.specs.declared.error.UpgradeError.TheVariants.{Upgrade}
use Rattle.ws_service.specs.declared.dispatcher.Work.TheVariants.{Calling}
use Rattle.ws_service.specs.View.{view_of, stage_of}
use Rattle.ws_service.specs.Steps.{ready, called}
use Rattle.ws_service.proofs.Runs.{ends_by}
use Rattle.ws_service.proofs.Moves.{now_waiting, needs_ready}
use Rattle.ws_service.proofs.Turns.{pending_then, step_then}
use Rattle.ws_service.proofs.dispatcher.serve_frames.UpgradeDispatcher+T+U+U+Call+L.ask.Goals as goal

pub returns-in-Pending-clause-says : goal.returns-in-Pending-clause-says
returns-in-Pending-clause-says g c =
    let v = view_of g.T.Transport.wiring g.U.Service.served g.L.Recorder.noted g.L.Recorder.is_listening c.args.self.now in
    let u = view_of g.T.Transport.wiring g.U.Service.served g.L.Recorder.noted g.L.Recorder.is_listening (record c.args.self.now { service = c.poll_ready.new.self }) in
    let w = view_of g.T.Transport.wiring g.U.Service.served g.L.Recorder.noted g.L.Recorder.is_listening c.read.new.self in
    let item = now_waiting v.stage c.requires.waits in
    pending_then 3 (omega arith) v u w (ready Pending) c.read.result
    (record { running = c.requires.running; opened = c.requires.goes_on }, item, tt, c.in-Pending.ensures.says, refl) tt
    (needs_ready u u.stage item.0 item.1) c.read.ensures.says

pub returns-in-Ready-Err-clause-says : goal.returns-in-Ready-Err-clause-says
returns-in-Ready-Err-clause-says g c =
    let v = view_of g.T.Transport.wiring g.U.Service.served g.L.Recorder.noted g.L.Recorder.is_listening c.args.self.now in
    let w = view_of g.T.Transport.wiring g.U.Service.served g.L.Recorder.noted g.L.Recorder.is_listening (record c.args.self.now { service = c.poll_ready.new.self }) in
    ends_by 3 (omega arith) v w (ready (Ready (Err c.in-Ready-Err.error))) (Err (Upgrade c.in-Ready-Err.error))
    (record { running = c.requires.running; opened = c.requires.goes_on }, now_waiting v.stage c.requires.waits, tt, rw c.in-Ready-Err.field-0-is at c.in-Ready-Err.ensures.says, refl)
    (inl ([], refl, tt))

pub returns-in-Waiting-clause-says : goal.returns-in-Waiting-clause-says
returns-in-Waiting-clause-says g c =
    let v = view_of g.T.Transport.wiring g.U.Service.served g.L.Recorder.noted g.L.Recorder.is_listening c.args.self.now in
    let u = view_of g.T.Transport.wiring g.U.Service.served g.L.Recorder.noted g.L.Recorder.is_listening (record c.args.self.now { service = c.call.new.self; work = Calling c.call.result }) in
    let w = view_of g.T.Transport.wiring g.U.Service.served g.L.Recorder.noted g.L.Recorder.is_listening c.answer.new.self in
    step_then 2 3 (omega arith) v u w (called c.in-Waiting.item) c.answer.result (
      record { running = c.requires.running; opened = c.requires.goes_on },
      ap (λ x. stage_of x) (sym c.replace.ensures.value ∙ c.in-Waiting.is),
      record { between = g.U.Service.served c.poll_ready.new.self; is_ready = rw c.in-Ready-Ok.field-0-is at c.in-Ready-Ok.ensures.says; begun = c.call.ensures.says },
      refl,
    )
    tt c.answer.ensures.says
