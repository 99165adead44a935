use Rattle.std.proofs.Common.{rules}
use Rattle.ws_service.specs.View.{view_of}
use Rattle.ws_service.proofs.Moves.{now_sending, needs_room}
use Rattle.ws_service.proofs.Turns.{input_then, only_end}
use Rattle.ws_service.proofs.dispatcher.serve_frames.UpgradeDispatcher+T+U+U+Call+L.send.Goals as goal

pub returns-then-not-can_send-clause-says : goal.returns-then-not-can_send-clause-says
returns-then-not-can_send-clause-says g c =
    let v = view_of g.T.Transport.wiring g.U.Service.served g.L.Recorder.noted g.L.Recorder.is_listening c.args.self.now in
    let w = view_of g.T.Transport.wiring g.U.Service.served g.L.Recorder.noted g.L.Recorder.is_listening c.read.new.self in
    let message = now_sending v.stage c.requires.answered in
    input_then v w c.read.result (needs_room v v.stage message.0 message.1 (search rules)) c.read.ensures.says

pub returns-clause-says : goal.returns-clause-says
returns-clause-says g c =
    let v = view_of g.T.Transport.wiring g.U.Service.served g.L.Recorder.noted g.L.Recorder.is_listening c.args.self.now in
    let w = view_of g.T.Transport.wiring g.U.Service.served g.L.Recorder.noted g.L.Recorder.is_listening c.send_message.new.self in
    only_end v w c.send_message.result c.send_message.ensures.says
