use Rattle.std.proofs.Common.{refl}
use Rattle.h1_dispatcher.specs.View.{view_of}
use Rattle.h1_dispatcher.proofs.Held.{refuses_waits}
use Rattle.h1_dispatcher.proofs.Turns.{now_waiting}
use Rattle.h1_dispatcher.proofs.dispatcher.check.Dispatcher+T+S+S+Call+L+B.refuse.Goals as goal

pub returns-clause-says : goal.returns-clause-says
returns-clause-says g c =
    let v = view_of g.T.Transport.wiring g.S.Service.served g.S.Service.calling g.B.MessageBody.gives g.L.Recorder.noted g.L.Recorder.is_listening c.args.self.now in
    let r = now_waiting v.stage (refuses_waits v c.requires.can_refuse) in
    (r.0, (c.requires.can_refuse, r.1, refl))
