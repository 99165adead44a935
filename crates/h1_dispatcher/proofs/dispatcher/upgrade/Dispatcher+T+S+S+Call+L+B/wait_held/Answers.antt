use Rattle.h1_dispatcher.specs.View.{view_of}
use Rattle.h1_dispatcher.proofs.Turns.{now_waiting, waits_held, held_then}
use Rattle.h1_dispatcher.proofs.dispatcher.upgrade.Dispatcher+T+S+S+Call+L+B.wait_held.Goals as goal

pub returns-clause-says : goal.returns-clause-says
returns-clause-says g c =
    let v = view_of g.T.Transport.wiring g.S.Service.served g.S.Service.calling g.B.MessageBody.gives g.L.Recorder.noted g.L.Recorder.is_listening c.args.self.now in
    let w = view_of g.T.Transport.wiring g.S.Service.served g.S.Service.calling g.B.MessageBody.gives g.L.Recorder.noted g.L.Recorder.is_listening c.read_alone.new.self in
    let r = now_waiting v.stage c.requires.waits in
    held_then v w c.read_alone.result c.requires.held (waits_held v r.0 c.requires.allowed c.requires.held r.1) c.read_alone.ensures.says
