use Rattle.h1_codec.specs.View.{view_of}
use Rattle.h1_codec.proofs.Behind.{send_behind}
use Rattle.h1_codec.proofs.sending.Sending.send.Goals as goal

pub returns-in-Ok-clause-says : goal.returns-in-Ok-clause-says
returns-in-Ok-clause-says g c =
    let v = view_of g.T.Transport.wiring g.B.MessageBody.gives c.args.self.now in
    let u = view_of g.T.Transport.wiring g.B.MessageBody.gives c.begin.new.self in
    let w = view_of g.T.Transport.wiring g.B.MessageBody.gives c.go_on.new.self in
    send_behind g.U.Encoder.writes g.U.Encoder.refuses g.U.Encoder.lacks g.U.Encoder.leaves v u w c.in-Ok.ensures.ok.0 c.in-Ok.ensures.ok.1 c.go_on.new.cx.is_woken c.go_on.result c.go_on.ensures.says
