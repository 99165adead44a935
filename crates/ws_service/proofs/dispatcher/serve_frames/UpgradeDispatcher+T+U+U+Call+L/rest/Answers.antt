use Rattle.std.proofs.Common.{rules}
use Rattle.ws_service.specs.View.{view_of}
use Rattle.ws_service.proofs.Turns.{reads_rest, tells_rest, nothing_rests}
use Rattle.ws_service.proofs.dispatcher.serve_frames.UpgradeDispatcher+T+U+U+Call+L.rest.Goals as goal

pub returns-then-not-self-clause-says : goal.returns-then-not-self-clause-says
returns-then-not-self-clause-says g c =
    let v = view_of g.T.Transport.wiring g.U.Service.served g.L.Recorder.noted g.L.Recorder.is_listening c.args.self.now in
    let w = view_of g.T.Transport.wiring g.U.Service.served g.L.Recorder.noted g.L.Recorder.is_listening c.read.new.self in
    reads_rest v w c.read.result (search rules) c.read.ensures.says

pub returns-then-not-can_read-clause-says : goal.returns-then-not-can_read-clause-says
returns-then-not-can_read-clause-says g c =
    let v = view_of g.T.Transport.wiring g.U.Service.served g.L.Recorder.noted g.L.Recorder.is_listening c.args.self.now in
    nothing_rests v c.wait.result c.wait.ensures.idle (search rules)

pub returns-clause-says : goal.returns-clause-says
returns-clause-says g c =
    let v = view_of g.T.Transport.wiring g.U.Service.served g.L.Recorder.noted g.L.Recorder.is_listening c.args.self.now in
    let w = view_of g.T.Transport.wiring g.U.Service.served g.L.Recorder.noted g.L.Recorder.is_listening c.tell_input_end.new.self in
    tells_rest v w c.tell_input_end.result c.tell_input_end.ensures.says
