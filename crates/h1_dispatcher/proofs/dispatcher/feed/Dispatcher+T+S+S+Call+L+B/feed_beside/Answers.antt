use Rattle.std.proofs.Common.{rules}
use Rattle.h1_dispatcher.specs.View.{view_of}
use Rattle.h1_dispatcher.proofs.Turns.{full_armed}
use Rattle.h1_dispatcher.proofs.dispatcher.feed.Dispatcher+T+S+S+Call+L+B.feed_beside.Goals as goal

pub feed-requires-clause-armed : goal.feed-requires-clause-armed
feed-requires-clause-armed g c =
    let v = view_of g.T.Transport.wiring g.S.Service.served g.S.Service.calling g.B.MessageBody.gives g.L.Recorder.noted g.L.Recorder.is_listening c.args.self.now in
    full_armed v c.requires.armed (search rules) (search rules)
