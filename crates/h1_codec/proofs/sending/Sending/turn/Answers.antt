use Rattle.h1_codec.specs.View.{view_of}
use Rattle.h1_codec.proofs.Behind.{wait_behind}
use Rattle.h1_codec.proofs.sending.Sending.turn.Goals as goal

pub returns-in-Waits-clause-says : goal.returns-in-Waits-clause-says
returns-in-Waits-clause-says g c =
    let v = view_of g.T.Transport.wiring g.B.MessageBody.gives c.args.self.now in
    let u = view_of g.T.Transport.wiring g.B.MessageBody.gives c.feed.new.self in
    let w = view_of g.T.Transport.wiring g.B.MessageBody.gives c.wait.new.self in
    let fed = c.in-Waits.ensures.says in
    wait_behind g.U.Encoder.writes g.U.Encoder.refuses g.U.Encoder.lacks g.U.Encoder.leaves v u w fed.0.0 fed.0.1 c.wait.new.cx.is_woken c.wait.result fed.1 c.wait.ensures.says
