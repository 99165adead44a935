use Rattle.std.proofs.Common.{rules, Some, inr}
use Rattle.ws_service.specs.declared.dispatcher.Ending.TheVariants.{Broken}
use Rattle.ws_service.specs.View.{view_of}
use Rattle.ws_service.proofs.Moves.{unchanged, heard}
use Rattle.ws_service.proofs.dispatcher.begin.UpgradeDispatcher+T+U+U+Call+L.tell_drain.Goals as goal

pub returns-in-Ok-clause-says : goal.returns-in-Ok-clause-says
returns-in-Ok-clause-says g c =
    let v = view_of g.T.Transport.wiring g.U.Service.served g.L.Recorder.noted g.L.Recorder.is_listening c.args.self.now in
    let w = view_of g.T.Transport.wiring g.U.Service.served g.L.Recorder.noted g.L.Recorder.is_listening (record c.args.self.now { traced = c.drain.new.self }) in
    inr (search rules, search rules, (record { steps = c.in-Ok.ensures.stands; settings = c.drain.ensures.settings }, unchanged w v.listening c.drain.ensures.listening))

pub returns-in-Err-clause-says : goal.returns-in-Err-clause-says
returns-in-Err-clause-says g c =
    let v = view_of g.T.Transport.wiring g.U.Service.served g.L.Recorder.noted g.L.Recorder.is_listening c.args.self.now in
    let w = view_of g.T.Transport.wiring g.U.Service.served g.L.Recorder.noted g.L.Recorder.is_listening (record c.args.self.now { traced = c.drain.new.self; ending = Some Broken }) in
    ((search rules, search rules, heard v.listening c.in-Err.ensures.no_memory_needed), c.in-Err.ensures.err, unchanged w v.listening c.drain.ensures.listening)
