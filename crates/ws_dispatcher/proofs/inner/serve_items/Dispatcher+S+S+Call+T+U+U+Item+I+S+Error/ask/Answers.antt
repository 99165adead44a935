use Rattle.std.proofs.Common.{Some, None, true, refl, sym, ◌∙◌}
use Rattle.ws_dispatcher.specs.View.{view_of}
use Rattle.ws_dispatcher.specs.declared.inner.dispatcher.End.TheVariants.{Failed}
use Rattle.ws_dispatcher.proofs.Serve.{same_view, ready_pending, ready_failed, asked}
use Rattle.ws_dispatcher.specs.Steps.{Unwritten}
use Rattle.ws_dispatcher.proofs.inner.serve_items.Dispatcher+S+S+Call+T+U+U+Item+I+S+Error.ask.Goals as goal

pub returns-in-Pending-clause-says : goal.returns-in-Pending-clause-says
returns-in-Pending-clause-says g c =
    let v = view_of g.T.Transport.wiring g.S.Service.served c.args.self.now in
    let w = view_of g.T.Transport.wiring g.S.Service.served (record c.args.self.now { service = c.poll_ready.new.self }) in
    ready_pending g.U.Decoder.reads g.U.Decoder.given g.U.Decoder.nothing g.U.Decoder.breaks g.U.Decoder.lacks g.U.Decoder.seen g.U.Decoder.leaves g.U.Encoder.writes (Unwritten g.U.Encoder.refuses g.U.Encoder.lacks g.U.Encoder.leaves) v w c.poll_ready.new.cx
    c.requires.is_open c.requires.settled c.requires.calling c.requires.waiting c.in-Pending.ensures.says refl refl refl refl refl refl refl refl refl refl refl

pub returns-in-Ready-Err-clause-says : goal.returns-in-Ready-Err-clause-says
returns-in-Ready-Err-clause-says g c =
    let v = view_of g.T.Transport.wiring g.S.Service.served c.args.self.now in
    let w = view_of g.T.Transport.wiring g.S.Service.served (record c.args.self.now { service = c.poll_ready.new.self; end = Failed c.in-Ready-Err.error }) in
    ready_failed g.U.Decoder.reads g.U.Decoder.given g.U.Decoder.nothing g.U.Decoder.breaks g.U.Decoder.lacks g.U.Decoder.seen g.U.Decoder.leaves g.U.Encoder.writes (Unwritten g.U.Encoder.refuses g.U.Encoder.lacks g.U.Encoder.leaves) v w c.poll_ready.new.cx
    c.in-Ready-Err.error c.requires.is_open c.requires.settled c.requires.calling c.requires.waiting (rw c.in-Ready-Err.field-0-is at c.in-Ready-Err.ensures.says)
    refl refl refl refl refl refl refl refl (sym c.requires.is_open.no_close) refl refl

pub returns-in-Some-clause-says : goal.returns-in-Some-clause-says
returns-in-Some-clause-says g c =
    let v = view_of g.T.Transport.wiring g.S.Service.served c.args.self.now in
    let w =
    view_of g.T.Transport.wiring g.S.Service.served
    (record c.args.self.now { service = c.call.new.self; call = Some c.call.result; waiting = c.take.new.self }) in
    asked g.U.Decoder.reads g.U.Decoder.given g.U.Decoder.nothing g.U.Decoder.breaks g.U.Decoder.lacks g.U.Decoder.seen g.U.Decoder.leaves g.U.Encoder.writes (Unwritten g.U.Encoder.refuses g.U.Encoder.lacks g.U.Encoder.leaves) v w c.poll_ready.new.cx
    (g.S.Service.served c.poll_ready.new.self) c.in-Some.item c.requires.is_open c.requires.settled c.requires.calling (sym c.take.ensures.value ∙ c.in-Some.is)
    (rw c.in-Ready-Ok.field-0-is at c.in-Ready-Ok.ensures.says) c.call.ensures.says
    (same_view (record v { service = w.service; waiting = None; calling = true }) w refl refl refl refl refl c.take.ensures.after refl refl refl refl refl refl)
