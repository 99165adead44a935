use Rattle.std.proofs.Common.{rules, inl, inr}
use Rattle.ws_service.specs.View.{view_of}
use Rattle.ws_service.proofs.Turns.{nothing_read}
use Rattle.ws_service.proofs.dispatcher.read.UpgradeDispatcher+T+U+U+Call+L.read.Goals as goal

pub returns-then-room-eq0-clause-says : goal.returns-then-room-eq0-clause-says
returns-then-room-eq0-clause-says g c =
    let v = view_of g.T.Transport.wiring g.U.Service.served g.L.Recorder.noted g.L.Recorder.is_listening c.args.self.now in
    nothing_read v c.wait-then-room-eq0.result c.wait-then-room-eq0.ensures.idle (inr (inl (search rules)))

pub returns-then-not-can_read-clause-says : goal.returns-then-not-can_read-clause-says
returns-then-not-can_read-clause-says g c =
    let v = view_of g.T.Transport.wiring g.U.Service.served g.L.Recorder.noted g.L.Recorder.is_listening c.args.self.now in
    nothing_read v c.wait-then-not-can_read.result c.wait-then-not-can_read.ensures.idle (inl (search rules))

pub returns-then-self-clause-says : goal.returns-then-self-clause-says
returns-then-self-clause-says g c =
    let v = view_of g.T.Transport.wiring g.U.Service.served g.L.Recorder.noted g.L.Recorder.is_listening c.args.self.now in
    nothing_read v c.wait.result c.wait.ensures.idle (inr (inr (search rules)))
