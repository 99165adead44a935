use Rattle.ws_service.specs.View.{view_of}
use Rattle.ws_service.proofs.Begins.{begun, unbegun}
use Rattle.ws_service.proofs.dispatcher.begin.UpgradeDispatcher+T+U+U+Call+L.begin.Goals as goal

pub returns-in-Ok-clause-says : goal.returns-in-Ok-clause-says
returns-in-Ok-clause-says g c =
    begun (view_of g.T.Transport.wiring g.U.Service.served g.L.Recorder.noted g.L.Recorder.is_listening c.args.self.now) (view_of g.T.Transport.wiring g.U.Service.served g.L.Recorder.noted g.L.Recorder.is_listening c.tick.new.self) (view_of g.T.Transport.wiring g.U.Service.served g.L.Recorder.noted g.L.Recorder.is_listening c.tell_drain.new.self)
    c.args.moment c.tell_drain.result c.in-Ok.ensures.says c.tell_drain.ensures.says

pub returns-in-Err-clause-says : goal.returns-in-Err-clause-says
returns-in-Err-clause-says g c =
    unbegun (view_of g.T.Transport.wiring g.U.Service.served g.L.Recorder.noted g.L.Recorder.is_listening c.args.self.now) (view_of g.T.Transport.wiring g.U.Service.served g.L.Recorder.noted g.L.Recorder.is_listening c.tick.new.self) c.args.moment c.in-Err.ensures.says
