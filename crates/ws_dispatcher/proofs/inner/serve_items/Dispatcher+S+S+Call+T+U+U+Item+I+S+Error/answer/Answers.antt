use Rattle.std.proofs.Common.{Ok, Err, Some, is_some, refl, sym, ap, ◌++◌, ◌∷◌, [], ◌∙◌, append-nil}
use Rattle.ws_dispatcher.specs.View.{view_of}
use Rattle.ws_dispatcher.specs.Queued.{queued}
use Rattle.ws_dispatcher.specs.declared.inner.dispatcher.End.TheVariants.{Failed}
use Rattle.ws_dispatcher.specs.declared.inner.queue.Message.TheVariants.{Item}
use Rattle.ws_dispatcher.proofs.Serve.{same_view, no_room, call_pending, call_answered}
use Rattle.ws_dispatcher.specs.Steps.{Unwritten}
use Rattle.ws_dispatcher.proofs.inner.serve_items.Dispatcher+S+S+Call+T+U+U+Item+I+S+Error.answer.Goals as goal

pub returns-then-is_err-clause-says : goal.returns-then-is_err-clause-says
returns-then-is_err-clause-says g c =
    let v = view_of g.T.Transport.wiring g.S.Service.served c.args.self.now in
    let w = view_of g.T.Transport.wiring g.S.Service.served (record c.args.self.now { queue = c.make_room.new.self }) in
    no_room g.U.Decoder.reads g.U.Decoder.given g.U.Decoder.nothing g.U.Decoder.breaks g.U.Decoder.lacks g.U.Decoder.seen g.U.Decoder.leaves g.U.Encoder.writes (Unwritten g.U.Encoder.refuses g.U.Encoder.lacks g.U.Encoder.leaves) v w c.args.cx.now
    (same_view v w refl refl refl refl refl refl refl c.make_room.ensures.same refl refl refl refl) c.requires.is_open c.requires.calling

pub returns-in-Pending-clause-says : goal.returns-in-Pending-clause-says
returns-in-Pending-clause-says g c =
    let v = view_of g.T.Transport.wiring g.S.Service.served c.args.self.now in
    let w = view_of g.T.Transport.wiring g.S.Service.served (record c.args.self.now { service = c.poll_call.new.self; lent = c.poll_call.new.lent; call = Some c.poll_call.new.call; queue = c.make_room.new.self }) in
    call_pending g.U.Decoder.reads g.U.Decoder.given g.U.Decoder.nothing g.U.Decoder.breaks g.U.Decoder.lacks g.U.Decoder.seen g.U.Decoder.leaves g.U.Encoder.writes (Unwritten g.U.Encoder.refuses g.U.Encoder.lacks g.U.Encoder.leaves) v w c.poll_call.new.cx
    c.requires.is_open c.requires.settled c.requires.calling c.in-Pending.ensures.says refl refl refl refl refl refl c.make_room.ensures.same refl refl refl refl

pub returns-in-Ready-Err-clause-says : goal.returns-in-Ready-Err-clause-says
returns-in-Ready-Err-clause-says g c =
    let v = view_of g.T.Transport.wiring g.S.Service.served c.args.self.now in
    let w = view_of g.T.Transport.wiring g.S.Service.served (record c.args.self.now { service = c.poll_call.new.self; lent = c.poll_call.new.lent; call = c.take.new.self; queue = c.make_room.new.self; end = Failed c.in-Ready-Err.error }) in
    call_answered g.U.Decoder.reads g.U.Decoder.given g.U.Decoder.nothing g.U.Decoder.breaks g.U.Decoder.lacks g.U.Decoder.seen g.U.Decoder.leaves g.U.Encoder.writes (Unwritten g.U.Encoder.refuses g.U.Encoder.lacks g.U.Encoder.leaves) v w c.poll_call.new.cx
    (Err c.in-Ready-Err.error) c.requires.is_open c.requires.settled c.requires.calling (rw c.in-Ready-Err.field-0-is at c.in-Ready-Err.ensures.says)
    refl refl refl refl refl (ap is_some c.take.ensures.after) (c.make_room.ensures.same ∙ sym (append-nil (queued c.args.self.now.queue))) refl
    (sym c.requires.is_open.no_close) refl refl

pub returns-in-Ok-clause-says : goal.returns-in-Ok-clause-says
returns-in-Ok-clause-says g c =
    let v = view_of g.T.Transport.wiring g.S.Service.served c.args.self.now in
    let w = view_of g.T.Transport.wiring g.S.Service.served (record c.args.self.now { service = c.poll_call.new.self; lent = c.poll_call.new.lent; call = c.take.new.self; queue = c.send.new.self }) in
    call_answered g.U.Decoder.reads g.U.Decoder.given g.U.Decoder.nothing g.U.Decoder.breaks g.U.Decoder.lacks g.U.Decoder.seen g.U.Decoder.leaves g.U.Encoder.writes (Unwritten g.U.Encoder.refuses g.U.Encoder.lacks g.U.Encoder.leaves) v w c.poll_call.new.cx
    (Ok c.in-Ready-Ok.message) c.requires.is_open c.requires.settled c.requires.calling (rw c.in-Ready-Ok.field-0-is at c.in-Ready-Ok.ensures.says)
    refl refl refl refl refl (ap is_some c.take.ensures.after)
    (c.in-Ok.ensures.ok ∙ ap (λ q. q ++ Ok (Item c.in-Ready-Ok.message) ∷ []) c.make_room.ensures.same) refl refl
    c.requires.is_open.no_error refl
