use Rattle.ws_service.specs.View.{view_of}
use Rattle.ws_service.proofs.Turns.{open_then, not_closing}
use Rattle.ws_service.proofs.dispatcher.write.UpgradeDispatcher+T+U+U+Call+L.go_on.Goals as goal

pub serve-requires-clause-goes_on : goal.serve-requires-clause-goes_on
serve-requires-clause-goes_on g c =
    let v = view_of g.T.Transport.wiring g.U.Service.served g.L.Recorder.noted g.L.Recorder.is_listening c.args.self.now in
    not_closing v c.closing.result c.in-None.is (rw c.connection.ensures at c.closing.ensures.value)

pub returns-in-None-clause-says : goal.returns-in-None-clause-says
returns-in-None-clause-says g c =
    let v = view_of g.T.Transport.wiring g.U.Service.served g.L.Recorder.noted g.L.Recorder.is_listening c.args.self.now in
    let w = view_of g.T.Transport.wiring g.U.Service.served g.L.Recorder.noted g.L.Recorder.is_listening c.serve.new.self in
    open_then v w c.serve.result (not_closing v c.closing.result c.in-None.is (rw c.connection.ensures at c.closing.ensures.value)) c.serve.ensures.says
