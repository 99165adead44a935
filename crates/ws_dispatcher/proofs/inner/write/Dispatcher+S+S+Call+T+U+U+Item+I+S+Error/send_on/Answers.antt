use Rattle.std.proofs.Common.{Ok, true, false, refl, arith}
use Rattle.futures.specs.declared.task.Poll.TheVariants.{Ready, Pending}
use Rattle.ws_dispatcher.specs.View.{view_of}
use Rattle.ws_dispatcher.proofs.Send.{to_send, gave_some, flush_counted, flush_failed, flush_served, served}
use Rattle.ws_dispatcher.proofs.Serve.{same_view}
use Rattle.ws_dispatcher.specs.Steps.{Unwritten}
use Rattle.ws_dispatcher.proofs.inner.write.Dispatcher+S+S+Call+T+U+U+Item+I+S+Error.send_on.Goals as goal

pub returns-then-is_sent-clause-says : goal.returns-then-is_sent-clause-says
returns-then-is_sent-clause-says g c =
    let v = view_of g.T.Transport.wiring g.S.Service.served c.args.self.now in
    let w = view_of g.T.Transport.wiring g.S.Service.served c.serve.new.self in
    served g.U.Decoder.reads g.U.Decoder.given g.U.Decoder.nothing g.U.Decoder.breaks g.U.Decoder.lacks g.U.Decoder.seen g.U.Decoder.leaves g.U.Encoder.writes (Unwritten g.U.Encoder.refuses g.U.Encoder.lacks g.U.Encoder.leaves) v w c.serve.new.cx
    c.serve.result c.requires.settled (c.if-is_sent.ensures.0 refl) c.serve.ensures.says

pub returns-in-Ready-Ok-clause-says : goal.returns-in-Ready-Ok-clause-says
returns-in-Ready-Ok-clause-says g c =
    let v = view_of g.T.Transport.wiring g.S.Service.served c.args.self.now in
    let w = view_of g.T.Transport.wiring g.S.Service.served (record c.args.self.now { framed = c.flush.new.self; flushing = false }) in
    flush_counted g.U.Decoder.reads g.U.Decoder.given g.U.Decoder.nothing g.U.Decoder.breaks g.U.Decoder.lacks g.U.Decoder.seen g.U.Decoder.leaves g.U.Encoder.writes (Unwritten g.U.Encoder.refuses g.U.Encoder.lacks g.U.Encoder.leaves) v w c.flush.new.cx
    (Ready (Ok c.in-Ready-Ok.field-0-0)) tt (to_send v c.if-is_sent.ensures) (rw c.in-Ready-Ok.field-0-is at c.in-Ready-Ok.ensures.says) (omega arith) (same_view (record v { transport = w.transport; unsent = w.unsent; flushing = false }) w refl c.flush.ensures.codec c.flush.ensures.unread refl refl refl refl refl refl refl refl refl)

pub returns-in-Ready-Err-clause-says : goal.returns-in-Ready-Err-clause-says
returns-in-Ready-Err-clause-says g c =
    let v = view_of g.T.Transport.wiring g.S.Service.served c.args.self.now in
    let w = view_of g.T.Transport.wiring g.S.Service.served (record c.args.self.now { framed = c.flush.new.self; flushing = true }) in
    flush_failed g.U.Decoder.reads g.U.Decoder.given g.U.Decoder.nothing g.U.Decoder.breaks g.U.Decoder.lacks g.U.Decoder.seen g.U.Decoder.leaves g.U.Encoder.writes (Unwritten g.U.Encoder.refuses g.U.Encoder.lacks g.U.Encoder.leaves) v w c.flush.new.cx
    c.in-Ready-Err.field-0-0 c.requires.is_open.no_error (to_send v c.if-is_sent.ensures) (rw c.in-Ready-Err.field-0-is at c.in-Ready-Err.ensures.says) (same_view (record v { transport = w.transport; unsent = w.unsent; flushing = true }) w refl c.flush.ensures.codec c.flush.ensures.unread refl refl refl refl refl refl refl refl refl)

pub returns-then-is_settled-clause-says : goal.returns-then-is_settled-clause-says
returns-then-is_settled-clause-says g c =
    let v = view_of g.T.Transport.wiring g.S.Service.served c.args.self.now in
    let u = view_of g.T.Transport.wiring g.S.Service.served (record c.args.self.now { framed = c.flush.new.self; flushing = true }) in
    let w = view_of g.T.Transport.wiring g.S.Service.served c.serve-then-is_settled.new.self in
    flush_served g.U.Decoder.reads g.U.Decoder.given g.U.Decoder.nothing g.U.Decoder.breaks g.U.Decoder.lacks g.U.Decoder.seen g.U.Decoder.leaves g.U.Encoder.writes (Unwritten g.U.Encoder.refuses g.U.Encoder.lacks g.U.Encoder.leaves) v u w c.flush.new.cx
    c.serve-then-is_settled.result c.serve-then-is_settled.new.cx c.serve-then-is_settled.ensures.kept (to_send v c.if-is_sent.ensures) c.in-Pending.ensures.says (same_view (record v { transport = u.transport; unsent = u.unsent; flushing = true }) u refl c.flush.ensures.codec c.flush.ensures.unread refl refl refl refl refl refl refl refl refl) (c.if-is_settled.ensures.0 refl) c.serve-then-is_settled.ensures.says

pub returns-else-is_settled-clause-says : goal.returns-else-is_settled-clause-says
returns-else-is_settled-clause-says g c =
    let v = view_of g.T.Transport.wiring g.S.Service.served c.args.self.now in
    let w = view_of g.T.Transport.wiring g.S.Service.served (record c.args.self.now { framed = c.flush.new.self; flushing = true }) in
    flush_counted g.U.Decoder.reads g.U.Decoder.given g.U.Decoder.nothing g.U.Decoder.breaks g.U.Decoder.lacks g.U.Decoder.seen g.U.Decoder.leaves g.U.Encoder.writes (Unwritten g.U.Encoder.refuses g.U.Encoder.lacks g.U.Encoder.leaves) v w c.flush.new.cx
    Pending tt (to_send v c.if-is_sent.ensures) c.in-Pending.ensures.says
    (gave_some v w c.in-Pending.ensures.says.0 c.requires.settled c.if-is_settled.ensures refl c.in-Pending.ensures.says.1.front) (same_view (record v { transport = w.transport; unsent = w.unsent; flushing = true }) w refl c.flush.ensures.codec c.flush.ensures.unread refl refl refl refl refl refl refl refl refl)
