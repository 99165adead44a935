use Rattle.std.proofs.Common.{rules}
use Rattle.h1_dispatcher.specs.View.{view_of}
use Rattle.h1_dispatcher.proofs.Held.{unasked_unchecked}
use Rattle.h1_dispatcher.proofs.Turns.{more_end, only_end}
use Rattle.h1_dispatcher.proofs.dispatcher.upgrade.Dispatcher+T+S+S+Call+L+B.hold.Goals as goal

pub returns-then-waits-clause-says : goal.returns-then-waits-clause-says
returns-then-waits-clause-says g c =
    let v = view_of g.T.Transport.wiring g.S.Service.served g.S.Service.calling g.B.MessageBody.gives g.L.Recorder.noted g.L.Recorder.is_listening c.args.self.now in
    let w = view_of g.T.Transport.wiring g.S.Service.served g.S.Service.calling g.B.MessageBody.gives g.L.Recorder.noted g.L.Recorder.is_listening c.tell_on.new.self in
    only_end v w c.tell_on.result (more_end v w c.tell_on.result c.tell_on.ensures.says)

pub tell_on-requires-clause-unchecked : goal.tell_on-requires-clause-unchecked
tell_on-requires-clause-unchecked g c =
    let v = view_of g.T.Transport.wiring g.S.Service.served g.S.Service.calling g.B.MessageBody.gives g.L.Recorder.noted g.L.Recorder.is_listening c.args.self.now in
    unasked_unchecked v (search rules)
