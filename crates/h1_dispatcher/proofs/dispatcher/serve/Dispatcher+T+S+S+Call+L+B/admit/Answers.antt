use Rattle.std.proofs.Common.{rules}
use Rattle.h1_dispatcher.specs.View.{view_of}
use Rattle.h1_dispatcher.proofs.Held.{unheld_unchecked}
use Rattle.h1_dispatcher.proofs.Turns.{now_waiting, waiting_awaits, waits_crowded, fed_then, more_end, only_end}
use Rattle.h1_dispatcher.proofs.dispatcher.serve.Dispatcher+T+S+S+Call+L+B.admit.Goals as goal

pub feed_beside-requires-clause-awaits : goal.feed_beside-requires-clause-awaits
feed_beside-requires-clause-awaits g c = waiting_awaits _ c.requires.waits

pub tell_on-requires-clause-unchecked : goal.tell_on-requires-clause-unchecked
tell_on-requires-clause-unchecked g c =
    let v = view_of g.T.Transport.wiring g.S.Service.served g.S.Service.calling g.B.MessageBody.gives g.L.Recorder.noted g.L.Recorder.is_listening c.args.self.now in
    unheld_unchecked v (search rules)

pub returns-then-not-has_room-clause-says : goal.returns-then-not-has_room-clause-says
returns-then-not-has_room-clause-says g c =
    let v = view_of g.T.Transport.wiring g.S.Service.served g.S.Service.calling g.B.MessageBody.gives g.L.Recorder.noted g.L.Recorder.is_listening c.args.self.now in
    let w = view_of g.T.Transport.wiring g.S.Service.served g.S.Service.calling g.B.MessageBody.gives g.L.Recorder.noted g.L.Recorder.is_listening c.feed_beside.new.self in
    let r = now_waiting v.stage c.requires.waits in
    fed_then v w c.feed_beside.result (waits_crowded v r.0 c.requires.allowed (search rules) (search rules) r.1) c.feed_beside.ensures.says

pub returns-then-waits-clause-says : goal.returns-then-waits-clause-says
returns-then-waits-clause-says g c =
    let v = view_of g.T.Transport.wiring g.S.Service.served g.S.Service.calling g.B.MessageBody.gives g.L.Recorder.noted g.L.Recorder.is_listening c.args.self.now in
    let w = view_of g.T.Transport.wiring g.S.Service.served g.S.Service.calling g.B.MessageBody.gives g.L.Recorder.noted g.L.Recorder.is_listening c.tell_on.new.self in
    only_end v w c.tell_on.result (more_end v w c.tell_on.result c.tell_on.ensures.says)
