use Rattle.h1_dispatcher.specs.View.{view_of}
use Rattle.h1_dispatcher.proofs.Turns.{open_then, not_closing}
use Rattle.h1_dispatcher.proofs.dispatcher.write.Dispatcher+T+S+S+Call+L+B.go_on.Goals as goal

pub returns-in-None-clause-says : goal.returns-in-None-clause-says
returns-in-None-clause-says g c =
    let v = view_of g.T.Transport.wiring g.S.Service.served g.S.Service.calling g.B.MessageBody.gives g.L.Recorder.noted g.L.Recorder.is_listening c.args.self.now in
    let w = view_of g.T.Transport.wiring g.S.Service.served g.S.Service.calling g.B.MessageBody.gives g.L.Recorder.noted g.L.Recorder.is_listening c.serve.new.self in
    open_then v w c.serve.result (not_closing v c.closing.result c.in-None.is (rw c.connection.ensures at c.closing.ensures.value)) c.serve.ensures.says
