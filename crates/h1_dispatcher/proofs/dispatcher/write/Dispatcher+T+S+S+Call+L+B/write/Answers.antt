use Rattle.std.proofs.Common.{rules, inl, inr}
use Rattle.h1_dispatcher.specs.View.{view_of}
use Rattle.h1_dispatcher.proofs.Turns.{quiet_then}
use Rattle.h1_dispatcher.proofs.dispatcher.write.Dispatcher+T+S+S+Call+L+B.write.Goals as goal

pub returns-then-buffered-eq0-clause-says : goal.returns-then-buffered-eq0-clause-says
returns-then-buffered-eq0-clause-says g c =
    let v = view_of g.T.Transport.wiring g.S.Service.served g.S.Service.calling g.B.MessageBody.gives g.L.Recorder.noted g.L.Recorder.is_listening c.args.self.now in
    let w = view_of g.T.Transport.wiring g.S.Service.served g.S.Service.calling g.B.MessageBody.gives g.L.Recorder.noted g.L.Recorder.is_listening c.go_on.new.self in
    quiet_then v w c.go_on.result c.requires.running (inl (search rules)) c.go_on.ensures.says

pub returns-then-not-can_write-clause-says : goal.returns-then-not-can_write-clause-says
returns-then-not-can_write-clause-says g c =
    let v = view_of g.T.Transport.wiring g.S.Service.served g.S.Service.calling g.B.MessageBody.gives g.L.Recorder.noted g.L.Recorder.is_listening c.args.self.now in
    let w = view_of g.T.Transport.wiring g.S.Service.served g.S.Service.calling g.B.MessageBody.gives g.L.Recorder.noted g.L.Recorder.is_listening c.go_on-then-not-can_write.new.self in
    quiet_then v w c.go_on-then-not-can_write.result c.requires.running (inr (search rules)) c.go_on-then-not-can_write.ensures.says
