use Rattle.std.proofs.Common.{rules, inl, inr}
use Rattle.ws_service.specs.View.{view_of}
use Rattle.ws_service.proofs.Turns.{quiet_then}
use Rattle.ws_service.proofs.dispatcher.write.UpgradeDispatcher+T+U+U+Call+L.write.Goals as goal

pub returns-then-buffered-eq0-clause-says : goal.returns-then-buffered-eq0-clause-says
returns-then-buffered-eq0-clause-says g c =
    let v = view_of g.T.Transport.wiring g.U.Service.served g.L.Recorder.noted g.L.Recorder.is_listening c.args.self.now in
    let w = view_of g.T.Transport.wiring g.U.Service.served g.L.Recorder.noted g.L.Recorder.is_listening c.go_on.new.self in
    quiet_then v w c.go_on.result c.requires.running (inl (search rules)) c.go_on.ensures.says

pub returns-then-not-can_write-clause-says : goal.returns-then-not-can_write-clause-says
returns-then-not-can_write-clause-says g c =
    let v = view_of g.T.Transport.wiring g.U.Service.served g.L.Recorder.noted g.L.Recorder.is_listening c.args.self.now in
    let w = view_of g.T.Transport.wiring g.U.Service.served g.L.Recorder.noted g.L.Recorder.is_listening c.go_on-then-not-can_write.new.self in
    quiet_then v w c.go_on-then-not-can_write.result c.requires.running (inr (search rules)) c.go_on-then-not-can_write.ensures.says
