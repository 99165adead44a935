use Rattle.std.proofs.Common.{rules}
use Rattle.h1_dispatcher.specs.View.{view_of}
use Rattle.h1_dispatcher.proofs.Turns.{input_then, idle_body, sends_idle, waits_room}
use Rattle.h1_dispatcher.proofs.dispatcher.send.Dispatcher+T+S+S+Call+L+B.send.Goals as goal

pub returns-clause-says : goal.returns-clause-says
returns-clause-says g c =
    let v = view_of g.T.Transport.wiring g.S.Service.served g.S.Service.calling g.B.MessageBody.gives g.L.Recorder.noted g.L.Recorder.is_listening c.args.self.now in
    let w = view_of g.T.Transport.wiring g.S.Service.served g.S.Service.calling g.B.MessageBody.gives g.L.Recorder.noted g.L.Recorder.is_listening c.read_beside.new.self in
    input_then v w c.read_beside.result (idle_body v (sends_idle v.stage c.requires.sends)) (waits_room v c.requires.sends (search rules)) c.read_beside.ensures.says
