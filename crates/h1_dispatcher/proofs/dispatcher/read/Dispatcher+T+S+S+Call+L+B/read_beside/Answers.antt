use Rattle.std.proofs.Common.{rules}
use Rattle.h1_dispatcher.specs.View.{view_of}
use Rattle.h1_dispatcher.proofs.Turns.{full_armed}
use Rattle.h1_dispatcher.proofs.dispatcher.read.Dispatcher+T+S+S+Call+L+B.read_beside.Goals as goal

pub read_on-requires : goal.read_on-requires
read_on-requires g c =
    let v = view_of g.T.Transport.wiring g.S.Service.served g.S.Service.calling g.B.MessageBody.gives g.L.Recorder.noted g.L.Recorder.is_listening c.args.self.now in
    record { «open» = c.requires.«open»; running = c.requires.running; armed = full_armed v c.requires.armed (search rules) (search rules) }
