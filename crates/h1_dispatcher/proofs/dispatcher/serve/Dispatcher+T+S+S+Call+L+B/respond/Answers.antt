use Rattle.std.proofs.Common.{ap}
use Rattle.h1_dispatcher.specs.View.{view_of, stage_of, is_awaiting}
use Rattle.h1_dispatcher.proofs.Turns.{input_then, idle_body, only_end, more_serve, waits_none}
use Rattle.h1_dispatcher.proofs.dispatcher.serve.Dispatcher+T+S+S+Call+L+B.respond.Goals as goal

pub returns-in-Free-clause-says : goal.returns-in-Free-clause-says
returns-in-Free-clause-says g c =
    let v = view_of g.T.Transport.wiring g.S.Service.served g.S.Service.calling g.B.MessageBody.gives g.L.Recorder.noted g.L.Recorder.is_listening c.args.self.now in
    let w = view_of g.T.Transport.wiring g.S.Service.served g.S.Service.calling g.B.MessageBody.gives g.L.Recorder.noted g.L.Recorder.is_listening c.read_alone.new.self in
    input_then v w c.read_alone.result (idle_body v (ap (λ x. is_awaiting (stage_of g.S.Service.calling g.B.MessageBody.gives x)) c.in-Free.is)) (waits_none v c.requires.allowed (ap (λ x. stage_of g.S.Service.calling g.B.MessageBody.gives x) c.in-Free.is)) c.read_alone.ensures.says

pub returns-in-Calling-clause-says : goal.returns-in-Calling-clause-says
returns-in-Calling-clause-says g c =
    let v = view_of g.T.Transport.wiring g.S.Service.served g.S.Service.calling g.B.MessageBody.gives g.L.Recorder.noted g.L.Recorder.is_listening c.args.self.now in
    let w = view_of g.T.Transport.wiring g.S.Service.served g.S.Service.calling g.B.MessageBody.gives g.L.Recorder.noted g.L.Recorder.is_listening c.answer.new.self in
    more_serve v w c.answer.result c.answer.ensures.says

pub returns-in-Replying-clause-says : goal.returns-in-Replying-clause-says
returns-in-Replying-clause-says g c =
    let v = view_of g.T.Transport.wiring g.S.Service.served g.S.Service.calling g.B.MessageBody.gives g.L.Recorder.noted g.L.Recorder.is_listening c.args.self.now in
    let w = view_of g.T.Transport.wiring g.S.Service.served g.S.Service.calling g.B.MessageBody.gives g.L.Recorder.noted g.L.Recorder.is_listening c.hand_on.new.self in
    only_end v w c.hand_on.result c.hand_on.ensures.says
