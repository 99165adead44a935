use Rattle.std.proofs.Common.{rules, arith}
use Rattle.h1_connection.specs.EventMeaning.{setting_of}
use Rattle.ws_service.specs.View.{view_of}
use Rattle.ws_service.proofs.Runs.{stays_foreign}
use Rattle.ws_service.proofs.Closes.{not_pulled}
use Rattle.ws_service.proofs.Turns.{more_serve}
use Rattle.ws_service.proofs.dispatcher.serve_frames.UpgradeDispatcher+T+U+U+Call+L.serve.Goals as goal

pub returns-then-not-can_pull_frame-clause-says : goal.returns-then-not-can_pull_frame-clause-says
returns-then-not-can_pull_frame-clause-says g c =
    let v = view_of g.T.Transport.wiring g.U.Service.served g.L.Recorder.noted g.L.Recorder.is_listening c.args.self.now in
    stays_foreign v c.requires.running (not_pulled (setting_of v.traced.state.settings) v.traced.state.kept c.requires.goes_on (search rules))

pub returns-in-Calling-clause-says : goal.returns-in-Calling-clause-says
returns-in-Calling-clause-says g c =
    let v = view_of g.T.Transport.wiring g.U.Service.served g.L.Recorder.noted g.L.Recorder.is_listening c.args.self.now in
    let w = view_of g.T.Transport.wiring g.U.Service.served g.L.Recorder.noted g.L.Recorder.is_listening c.answer.new.self in
    more_serve 2 (omega arith) v w c.answer.result c.answer.ensures.says

pub returns-in-Sending-clause-says : goal.returns-in-Sending-clause-says
returns-in-Sending-clause-says g c =
    let v = view_of g.T.Transport.wiring g.U.Service.served g.L.Recorder.noted g.L.Recorder.is_listening c.args.self.now in
    let w = view_of g.T.Transport.wiring g.U.Service.served g.L.Recorder.noted g.L.Recorder.is_listening c.send.new.self in
    more_serve 1 (omega arith) v w c.send.result c.send.ensures.says
