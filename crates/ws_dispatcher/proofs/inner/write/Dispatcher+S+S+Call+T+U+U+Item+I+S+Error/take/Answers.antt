use Rattle.std.proofs.Common.{Some, true, refl, sym, ap, ◌++◌}
use Rattle.ws_dispatcher.specs.View.{view_of}
use Rattle.ws_dispatcher.specs.declared.inner.dispatcher.End.TheVariants.{Closed, Failed}
use Rattle.ws_dispatcher.proofs.Send.{room_left, wrote_counted, unwritten_over, closed_counted, failed_counted}
use Rattle.ws_dispatcher.proofs.Serve.{same_view}
use Rattle.ws_dispatcher.specs.Steps.{Unwritten}
use Rattle.ws_dispatcher.proofs.inner.write.Dispatcher+S+S+Call+T+U+U+Item+I+S+Error.take.Goals as goal

pub returns-in-Some-Err-clause-says : goal.returns-in-Some-Err-clause-says
returns-in-Some-Err-clause-says g c =
    let v = view_of g.T.Transport.wiring g.S.Service.served c.args.self.now in
    let w = view_of g.T.Transport.wiring g.S.Service.served (record c.args.self.now { queue = c.pop.new.self; end = Failed c.in-Some-Err.error }) in
    failed_counted g.U.Decoder.reads g.U.Decoder.given g.U.Decoder.nothing g.U.Decoder.breaks g.U.Decoder.lacks g.U.Decoder.seen g.U.Decoder.leaves g.U.Encoder.writes (Unwritten g.U.Encoder.refuses g.U.Encoder.lacks g.U.Encoder.leaves) v w c.args.cx.now
    c.in-Some-Err.error c.requires.is_open (rw c.in-Some-Err.field-0-is at c.in-Some-Err.ensures.items)
    (same_view (record v { queue = w.queue; failing = Some c.in-Some-Err.error }) w refl refl refl refl refl refl refl refl refl (sym c.requires.is_open.no_close) refl refl)
    (room_left c.if-is_write_buf_full.ensures)

pub returns-in-Some-Ok-Close-clause-says : goal.returns-in-Some-Ok-Close-clause-says
returns-in-Some-Ok-Close-clause-says g c =
    let v = view_of g.T.Transport.wiring g.S.Service.served c.args.self.now in
    let w = view_of g.T.Transport.wiring g.S.Service.served (record c.args.self.now { queue = c.pop.new.self; end = Closed }) in
    closed_counted g.U.Decoder.reads g.U.Decoder.given g.U.Decoder.nothing g.U.Decoder.breaks g.U.Decoder.lacks g.U.Decoder.seen g.U.Decoder.leaves g.U.Encoder.writes (Unwritten g.U.Encoder.refuses g.U.Encoder.lacks g.U.Encoder.leaves) v w c.args.cx.now
    c.requires.is_open (rw (c.in-Some-Ok-Close.field-0-is, c.in-Some-Ok-Close.field-0-0-is) at c.in-Some-Ok-Close.ensures.items)
    (same_view (record v { queue = w.queue; closing = true }) w refl refl refl refl refl refl refl refl refl refl (sym c.requires.is_open.no_error) refl)
    (room_left c.if-is_write_buf_full.ensures)

pub returns-in-Ok-clause-says : goal.returns-in-Ok-clause-says
returns-in-Ok-clause-says g c =
    let v = view_of g.T.Transport.wiring g.S.Service.served c.args.self.now in
    let w = view_of g.T.Transport.wiring g.S.Service.served (record c.args.self.now { framed = c.write.new.self; queue = c.pop.new.self }) in
    let wrote = c.in-Ok.ensures.ok in
    wrote_counted g.U.Decoder.reads g.U.Decoder.given g.U.Decoder.nothing g.U.Decoder.breaks g.U.Decoder.lacks g.U.Decoder.seen g.U.Decoder.leaves g.U.Encoder.writes (Unwritten g.U.Encoder.refuses g.U.Encoder.lacks g.U.Encoder.leaves) v w c.args.cx.now
    c.in-Some-Ok-Item.message wrote.0 c.requires.is_open (rw (c.in-Some-Ok-Item.field-0-is, c.in-Some-Ok-Item.field-0-0-is) at c.in-Some-Ok-Item.ensures.items) wrote.2
    (same_view (record v { codec = w.codec; unsent = v.unsent ++ wrote.0; queue = w.queue }) w (ap g.T.Transport.wiring c.write.ensures.io) refl c.write.ensures.unread wrote.1 refl refl refl refl refl refl refl refl)
    (room_left c.if-is_write_buf_full.ensures)

pub returns-in-Err-clause-says : goal.returns-in-Err-clause-says
returns-in-Err-clause-says g c =
    let v = view_of g.T.Transport.wiring g.S.Service.served c.args.self.now in
    let w = view_of g.T.Transport.wiring g.S.Service.served (record c.args.self.now { framed = c.write.new.self; queue = c.pop.new.self }) in
    unwritten_over g.U.Decoder.reads g.U.Decoder.given g.U.Decoder.nothing g.U.Decoder.breaks g.U.Decoder.lacks g.U.Decoder.seen g.U.Decoder.leaves g.U.Encoder.writes (Unwritten g.U.Encoder.refuses g.U.Encoder.lacks g.U.Encoder.leaves) v w c.args.cx.now
    c.in-Some-Ok-Item.message c.in-Err.error c.requires.is_open (rw (c.in-Some-Ok-Item.field-0-is, c.in-Some-Ok-Item.field-0-0-is) at c.in-Some-Ok-Item.ensures.items)
    (same_view (record v { codec = w.codec; queue = w.queue }) w (ap g.T.Transport.wiring c.write.ensures.io) refl c.write.ensures.unread c.in-Err.ensures.err refl refl refl refl refl refl refl refl)
    (record { refused = c.in-Err.ensures.refused; lacking = c.in-Err.ensures.lacking; left = c.in-Err.ensures.left })
    (room_left c.if-is_write_buf_full.ensures)
