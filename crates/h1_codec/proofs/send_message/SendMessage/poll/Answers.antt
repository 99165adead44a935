use Rattle.std.proofs.Common.{◌≡◌}
use Rattle.h1_codec.proofs.GivenBack.{given_back}
use Rattle.h1_codec.proofs.send_message.SendMessage.poll.Goals as goal

pub returns-in-Some-take-clause-says : goal.returns-in-Some-take-clause-says
returns-in-Some-take-clause-says g c =
    let sent : c.in-Some-take.sent ≡ c.send.new.self = cc in
    let says = rw c.in-Ready-Ok.field-0-is at c.in-Ready-Ok.ensures.says in
    given_back g.T.Transport.wiring g.B.MessageBody.gives g.U.Encoder.writes g.U.Encoder.refuses g.U.Encoder.lacks g.U.Encoder.leaves c.args.self.now.sending c.take.new.self
    c.in-Some.sending c.send.new.self c.in-Some-take.sent c.send.new.cx.is_woken c.in-Some.is c.take.ensures.after sent says
