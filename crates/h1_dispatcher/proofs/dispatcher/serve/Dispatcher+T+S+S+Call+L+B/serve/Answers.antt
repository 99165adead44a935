use Rattle.std.proofs.Common.{rules}
use Rattle.h1_dispatcher.specs.View.{view_of, allows_next, has_write_room}
use Rattle.h1_dispatcher.proofs.Turns.{now_free, both_true, input_then, late_body, waits_busy, waits_not, waits_full, waits_unread}
use Rattle.h1_dispatcher.proofs.dispatcher.serve.Dispatcher+T+S+S+Call+L+B.serve.Goals as goal

pub returns-then-is_busy-clause-says : goal.returns-then-is_busy-clause-says
returns-then-is_busy-clause-says g c =
    let v = view_of g.T.Transport.wiring g.S.Service.served g.S.Service.calling g.B.MessageBody.gives g.L.Recorder.noted g.L.Recorder.is_listening c.args.self.now in
    let w = view_of g.T.Transport.wiring g.S.Service.served g.S.Service.calling g.B.MessageBody.gives g.L.Recorder.noted g.L.Recorder.is_listening c.read_alone.new.self in
    input_then v w c.read_alone.result (late_body v (search rules)) (waits_busy v (search rules) (search rules) (search rules)) c.read_alone.ensures.says

pub returns-then-not-can_next-clause-says : goal.returns-then-not-can_next-clause-says
returns-then-not-can_next-clause-says g c =
    let v = view_of g.T.Transport.wiring g.S.Service.served g.S.Service.calling g.B.MessageBody.gives g.L.Recorder.noted g.L.Recorder.is_listening c.args.self.now in
    let w = view_of g.T.Transport.wiring g.S.Service.served g.S.Service.calling g.B.MessageBody.gives g.L.Recorder.noted g.L.Recorder.is_listening c.read_alone-then-not-can_next.new.self in
    input_then v w c.read_alone-then-not-can_next.result (late_body v (search rules)) (waits_not v (search rules) (search rules) (search rules)) c.read_alone-then-not-can_next.ensures.says

pub returns-then-not-has_room-clause-says : goal.returns-then-not-has_room-clause-says
returns-then-not-has_room-clause-says g c =
    let v = view_of g.T.Transport.wiring g.S.Service.served g.S.Service.calling g.B.MessageBody.gives g.L.Recorder.noted g.L.Recorder.is_listening c.args.self.now in
    let w = view_of g.T.Transport.wiring g.S.Service.served g.S.Service.calling g.B.MessageBody.gives g.L.Recorder.noted g.L.Recorder.is_listening c.read_beside.new.self in
    input_then v w c.read_beside.result (late_body v (search rules)) (waits_full v (search rules) (search rules) (search rules)) c.read_beside.ensures.says

pub returns-clause-says : goal.returns-clause-says
returns-clause-says g c =
    let v = view_of g.T.Transport.wiring g.S.Service.served g.S.Service.calling g.B.MessageBody.gives g.L.Recorder.noted g.L.Recorder.is_listening c.args.self.now in
    let w = view_of g.T.Transport.wiring g.S.Service.served g.S.Service.calling g.B.MessageBody.gives g.L.Recorder.noted g.L.Recorder.is_listening c.read_alone-2.new.self in
    input_then v w c.read_alone-2.result (late_body v (search rules))
    (waits_unread v (search rules) (both_true (allows_next v) (has_write_room v) (search rules) (search rules)) (now_free v.stage (search rules)) (search rules, search rules)) c.read_alone-2.ensures.says
