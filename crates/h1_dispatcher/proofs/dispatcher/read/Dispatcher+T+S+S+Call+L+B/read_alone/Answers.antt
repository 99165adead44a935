use Rattle.std.proofs.Common.{rules, inl, inr}
use Rattle.h1_dispatcher.specs.View.{view_of}
use Rattle.h1_dispatcher.proofs.Turns.{nothing_read}
use Rattle.h1_dispatcher.proofs.dispatcher.read.Dispatcher+T+S+S+Call+L+B.read_alone.Goals as goal

pub returns-then-room-eq0-clause-says : goal.returns-then-room-eq0-clause-says
returns-then-room-eq0-clause-says g c =
    let v = view_of g.T.Transport.wiring g.S.Service.served g.S.Service.calling g.B.MessageBody.gives g.L.Recorder.noted g.L.Recorder.is_listening c.args.self.now in
    nothing_read v c.wake.result c.wake.ensures.idle (inr (search rules))

pub returns-then-not-can_read-clause-says : goal.returns-then-not-can_read-clause-says
returns-then-not-can_read-clause-says g c =
    let v = view_of g.T.Transport.wiring g.S.Service.served g.S.Service.calling g.B.MessageBody.gives g.L.Recorder.noted g.L.Recorder.is_listening c.args.self.now in
    nothing_read v c.wake-then-not-can_read.result c.wake-then-not-can_read.ensures.idle (inl (search rules))
