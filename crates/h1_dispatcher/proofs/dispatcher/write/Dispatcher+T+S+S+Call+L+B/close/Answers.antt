use Rattle.std.proofs.Common.{rules, inl, refl, ap, is_some}
use Rattle.h1_dispatcher.specs.View.{view_of}
use Rattle.h1_dispatcher.proofs.Turns.{end_then, held_idle, held_armed}
use Rattle.h1_dispatcher.proofs.dispatcher.write.Dispatcher+T+S+S+Call+L+B.close.Goals as goal

pub returns-then-can_next-clause-says : goal.returns-then-can_next-clause-says
returns-then-can_next-clause-says g c =
    let v = view_of g.T.Transport.wiring g.S.Service.served g.S.Service.calling g.B.MessageBody.gives g.L.Recorder.noted g.L.Recorder.is_listening c.args.self.now in
    let w = view_of g.T.Transport.wiring g.S.Service.served g.S.Service.calling g.B.MessageBody.gives g.L.Recorder.noted g.L.Recorder.is_listening c.tell_end.new.self in
    end_then v w c.tell_end.result c.tell_end.ensures.says

pub returns-then-can_write-clause-says : goal.returns-then-can_write-clause-says
returns-then-can_write-clause-says g c =
    let v = view_of g.T.Transport.wiring g.S.Service.served g.S.Service.calling g.B.MessageBody.gives g.L.Recorder.noted g.L.Recorder.is_listening c.args.self.now in
    inl (record { stays = refl; closing = ap is_some c.requires.closing; next = search rules })

pub returns-clause-says : goal.returns-clause-says
returns-clause-says g c =
    let v = view_of g.T.Transport.wiring g.S.Service.served g.S.Service.calling g.B.MessageBody.gives g.L.Recorder.noted g.L.Recorder.is_listening c.args.self.now in
    held_idle v c.wake.result c.wake.ensures.idle (record { stays = refl; closing = ap is_some c.requires.closing; next = search rules })

pub returns-then-can_write-clause-registered : goal.returns-then-can_write-clause-registered
returns-then-can_write-clause-registered g c =
    let v = view_of g.T.Transport.wiring g.S.Service.served g.S.Service.calling g.B.MessageBody.gives g.L.Recorder.noted g.L.Recorder.is_listening c.args.self.now in
    held_armed v c.requires.armed (ap is_some c.requires.closing) (search rules) (search rules)
