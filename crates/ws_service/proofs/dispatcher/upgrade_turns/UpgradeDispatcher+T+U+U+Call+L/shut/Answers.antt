use Rattle.std.proofs.Common.{Ok, Err, [], refl, inr, arith}
use Rattle.futures.specs.declared.task.Poll.TheVariants.{Ready}
use Rattle.ws_service.specs.declared.error.UpgradeError.TheVariants.{Io}
use Rattle.ws_service.specs.View.{view_of}
use Rattle.ws_service.specs.Steps.{shut}
use Rattle.ws_service.proofs.Runs.{ends_by}
use Rattle.ws_service.proofs.dispatcher.upgrade_turns.UpgradeDispatcher+T+U+U+Call+L.shut.Goals as goal

pub returns-in-Ready-Err-clause-says : goal.returns-in-Ready-Err-clause-says
returns-in-Ready-Err-clause-says g c =
    let v = view_of g.T.Transport.wiring g.U.Service.served g.L.Recorder.noted g.L.Recorder.is_listening c.args.self.now in
    let w = view_of g.T.Transport.wiring g.U.Service.served g.L.Recorder.noted g.L.Recorder.is_listening (record c.args.self.now { transport = c.poll_shutdown.new.self }) in
    ends_by 4 (omega arith) v w (shut (Ready (Err c.in-Ready-Err.field-0-0))) (Err Io)
    ((c.args.end, c.requires.ended), rw c.in-Ready-Err.field-0-is at c.in-Ready-Err.ensures.says, refl)
    (c.in-Ready-Err.field-0-0, inr (inr ([], refl, tt)))

pub returns-in-Ready-Ok-clause-says : goal.returns-in-Ready-Ok-clause-says
returns-in-Ready-Ok-clause-says g c =
    let v = view_of g.T.Transport.wiring g.U.Service.served g.L.Recorder.noted g.L.Recorder.is_listening c.args.self.now in
    let w = view_of g.T.Transport.wiring g.U.Service.served g.L.Recorder.noted g.L.Recorder.is_listening (record c.args.self.now { transport = c.poll_shutdown.new.self }) in
    ends_by 4 (omega arith) v w (shut (Ready (Ok tt))) (Ok tt)
    ((c.args.end, c.requires.ended), rw c.in-Ready-Ok.field-0-is at c.in-Ready-Ok.ensures.says, refl)
    (([], refl, tt), (c.args.end, c.requires.ended))
