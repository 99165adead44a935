use Rattle.std.proofs.Common.{true, Ok, Some, None, refl, arith}
use Rattle.futures.specs.declared.task.Poll.TheVariants.{Ready}
use Rattle.ws_dispatcher.specs.View.{view_of}
use Rattle.ws_dispatcher.proofs.Serve.{none_waits, read_pending, read_counted, read_refused}
use Rattle.ws_dispatcher.specs.Steps.{Unwritten}
use Rattle.ws_dispatcher.proofs.inner.serve_items.Dispatcher+S+S+Call+T+U+U+Item+I+S+Error.read.Goals as goal

pub returns-in-Pending-clause-says : goal.returns-in-Pending-clause-says
returns-in-Pending-clause-says g c =
    let v = view_of g.T.Transport.wiring g.S.Service.served c.args.self.now in
    let w = view_of g.T.Transport.wiring g.S.Service.served (record c.args.self.now { framed = c.next_item.new.self }) in
    read_pending g.U.Decoder.reads g.U.Decoder.given g.U.Decoder.nothing g.U.Decoder.breaks g.U.Decoder.lacks g.U.Decoder.seen g.U.Decoder.leaves g.U.Encoder.writes (Unwritten g.U.Encoder.refuses g.U.Encoder.lacks g.U.Encoder.leaves) v w c.next_item.new.cx
    c.requires.is_open c.requires.settled c.requires.waiting c.requires.calling c.requires.goes_on
    c.in-Pending.ensures.says c.next_item.ensures.unsent refl refl refl refl refl refl refl refl

pub returns-in-Ready-None-clause-says : goal.returns-in-Ready-None-clause-says
returns-in-Ready-None-clause-says g c =
    let v = view_of g.T.Transport.wiring g.S.Service.served c.args.self.now in
    let w = view_of g.T.Transport.wiring g.S.Service.served (record c.args.self.now { framed = c.next_item.new.self; ended = true }) in
    read_counted g.U.Decoder.reads g.U.Decoder.given g.U.Decoder.nothing g.U.Decoder.breaks g.U.Decoder.lacks g.U.Decoder.seen g.U.Decoder.leaves g.U.Encoder.writes (Unwritten g.U.Encoder.refuses g.U.Encoder.lacks g.U.Encoder.leaves) v w c.next_item.new.cx
    (Ready None) tt (omega arith) c.requires.is_open c.requires.settled c.requires.waiting c.requires.calling c.requires.goes_on
    (rw c.in-Ready-None.field-0-is at c.in-Ready-None.ensures.says) c.next_item.ensures.unsent refl (none_waits c.args.self.now.waiting c.requires.waiting) refl refl refl refl refl refl

pub returns-in-Ready-Some-Ok-clause-says : goal.returns-in-Ready-Some-Ok-clause-says
returns-in-Ready-Some-Ok-clause-says g c =
    let v = view_of g.T.Transport.wiring g.S.Service.served c.args.self.now in
    let w = view_of g.T.Transport.wiring g.S.Service.served (record c.args.self.now { framed = c.next_item.new.self; waiting = Some c.in-Ready-Some-Ok.item }) in
    read_counted g.U.Decoder.reads g.U.Decoder.given g.U.Decoder.nothing g.U.Decoder.breaks g.U.Decoder.lacks g.U.Decoder.seen g.U.Decoder.leaves g.U.Encoder.writes (Unwritten g.U.Encoder.refuses g.U.Encoder.lacks g.U.Encoder.leaves) v w c.next_item.new.cx
    (Ready (Some (Ok c.in-Ready-Some-Ok.item))) tt (omega arith) c.requires.is_open c.requires.settled c.requires.waiting c.requires.calling c.requires.goes_on
    (rw (c.in-Ready-Some-Ok.field-0-is, c.in-Ready-Some-Ok.field-0-0-is) at c.in-Ready-Some-Ok.ensures.says) c.next_item.ensures.unsent refl refl refl refl c.requires.goes_on refl refl refl

pub returns-in-Ready-Some-Err-clause-says : goal.returns-in-Ready-Some-Err-clause-says
returns-in-Ready-Some-Err-clause-says g c =
    let v = view_of g.T.Transport.wiring g.S.Service.served c.args.self.now in
    let w = view_of g.T.Transport.wiring g.S.Service.served (record c.args.self.now { framed = c.next_item.new.self }) in
    read_refused g.U.Decoder.reads g.U.Decoder.given g.U.Decoder.nothing g.U.Decoder.breaks g.U.Decoder.lacks g.U.Decoder.seen g.U.Decoder.leaves g.U.Encoder.writes (Unwritten g.U.Encoder.refuses g.U.Encoder.lacks g.U.Encoder.leaves) v w c.next_item.new.cx
    c.in-Ready-Some-Err.error c.protocol_error.result c.requires.is_open c.requires.settled c.requires.waiting c.requires.calling c.requires.goes_on
    (rw (c.in-Ready-Some-Err.field-0-is, c.in-Ready-Some-Err.field-0-0-is) at c.in-Ready-Some-Err.ensures.says) c.protocol_error.ensures c.next_item.ensures.unsent refl refl refl refl refl refl refl refl
