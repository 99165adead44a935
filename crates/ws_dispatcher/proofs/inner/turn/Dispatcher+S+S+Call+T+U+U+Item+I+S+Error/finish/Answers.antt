use Rattle.ws_dispatcher.specs.declared.inner.dispatcher.End.TheVariants.{Closed}
use Rattle.std.proofs.Common.{Ok, None, true, false, refl, sym, ap, ◌∙◌, arith}
use Rattle.futures.specs.declared.task.Poll.TheVariants.{Ready}
use Rattle.ws_dispatcher.specs.View.{view_of}
use Rattle.ws_dispatcher.specs.View.{is_closed, error_kept}
use Rattle.ws_dispatcher.proofs.Send.{to_send, flush_counted, flush_failed, flush_idle, flush_told}
use Rattle.ws_dispatcher.proofs.Serve.{same_view}
use Rattle.ws_dispatcher.specs.Steps.{Unwritten}
use Rattle.ws_dispatcher.proofs.inner.turn.Dispatcher+S+S+Call+T+U+U+Item+I+S+Error.finish.Goals as goal

pub returns-in-Pending-clause-says : goal.returns-in-Pending-clause-says
returns-in-Pending-clause-says g c =
    let v = view_of g.T.Transport.wiring g.S.Service.served c.args.self.now in
    let w = view_of g.T.Transport.wiring g.S.Service.served (record c.args.self.now { framed = c.flush.new.self; flushing = true }) in
    flush_idle g.U.Decoder.reads g.U.Decoder.given g.U.Decoder.nothing g.U.Decoder.breaks g.U.Decoder.lacks g.U.Decoder.seen g.U.Decoder.leaves g.U.Encoder.writes (Unwritten g.U.Encoder.refuses g.U.Encoder.lacks g.U.Encoder.leaves) v w c.flush.new.cx
    c.requires.ending (to_send v c.if-is_sent.ensures) c.in-Pending.ensures.says (same_view (record v { transport = w.transport; unsent = w.unsent; flushing = true }) w refl c.flush.ensures.codec c.flush.ensures.unread refl refl refl refl refl refl refl refl refl)

pub returns-in-Ready-Ok-clause-says : goal.returns-in-Ready-Ok-clause-says
returns-in-Ready-Ok-clause-says g c =
    let v = view_of g.T.Transport.wiring g.S.Service.served c.args.self.now in
    let w = view_of g.T.Transport.wiring g.S.Service.served (record c.args.self.now { framed = c.flush.new.self; flushing = false }) in
    flush_counted g.U.Decoder.reads g.U.Decoder.given g.U.Decoder.nothing g.U.Decoder.breaks g.U.Decoder.lacks g.U.Decoder.seen g.U.Decoder.leaves g.U.Encoder.writes (Unwritten g.U.Encoder.refuses g.U.Encoder.lacks g.U.Encoder.leaves) v w c.flush.new.cx
    (Ready (Ok c.in-Ready-Ok.field-0-0)) tt (to_send v c.if-is_sent.ensures) (rw c.in-Ready-Ok.field-0-is at c.in-Ready-Ok.ensures.says) (omega arith) (same_view (record v { transport = w.transport; unsent = w.unsent; flushing = false }) w refl c.flush.ensures.codec c.flush.ensures.unread refl refl refl refl refl refl refl refl refl)

pub returns-in-Failed-clause-says : goal.returns-in-Failed-clause-says
returns-in-Failed-clause-says g c =
    let v = view_of g.T.Transport.wiring g.S.Service.served c.args.self.now in
    let u = view_of g.T.Transport.wiring g.S.Service.served (record c.args.self.now { framed = c.flush.new.self; flushing = true }) in
    let w = view_of g.T.Transport.wiring g.S.Service.served (record c.args.self.now { framed = c.flush.new.self; flushing = true; end = c.replace.new.dest }) in
    let was = sym c.replace.ensures.value ∙ c.in-Failed.is in
    flush_told g.U.Decoder.reads g.U.Decoder.given g.U.Decoder.nothing g.U.Decoder.breaks g.U.Decoder.lacks g.U.Decoder.seen g.U.Decoder.leaves g.U.Encoder.writes (Unwritten g.U.Encoder.refuses g.U.Encoder.lacks g.U.Encoder.leaves) v u w c.flush.new.cx
    c.in-Ready-Err.field-0-0 c.in-Failed.error (to_send v c.if-is_sent.ensures) (rw c.in-Ready-Err.field-0-is at c.in-Ready-Err.ensures.says) (same_view (record v { transport = u.transport; unsent = u.unsent; flushing = true }) u refl c.flush.ensures.codec c.flush.ensures.unread refl refl refl refl refl refl refl refl refl) (ap error_kept was)
    (same_view (record u { failing = None }) w refl refl refl refl refl refl refl refl refl (ap is_closed c.replace.ensures.after ∙ sym (ap is_closed was)) (ap error_kept c.replace.ensures.after) refl)

pub returns-in-Closed-clause-says : goal.returns-in-Closed-clause-says
returns-in-Closed-clause-says g c =
    let v = view_of g.T.Transport.wiring g.S.Service.served c.args.self.now in
    let w = view_of g.T.Transport.wiring g.S.Service.served (record c.args.self.now { framed = c.flush.new.self; flushing = true; end = Closed }) in
    let was = sym c.replace.ensures.value ∙ c.in-Closed.is in
    flush_failed g.U.Decoder.reads g.U.Decoder.given g.U.Decoder.nothing g.U.Decoder.breaks g.U.Decoder.lacks g.U.Decoder.seen g.U.Decoder.leaves g.U.Encoder.writes (Unwritten g.U.Encoder.refuses g.U.Encoder.lacks g.U.Encoder.leaves) v w c.flush.new.cx
    c.in-Ready-Err.field-0-0 refl (to_send v c.if-is_sent.ensures) (rw c.in-Ready-Err.field-0-is at c.in-Ready-Err.ensures.says)
    (same_view (record v { transport = w.transport; unsent = w.unsent; flushing = true }) w refl c.flush.ensures.codec c.flush.ensures.unread refl refl refl refl refl refl (sym (ap is_closed was)) (sym (ap error_kept was)) refl)
