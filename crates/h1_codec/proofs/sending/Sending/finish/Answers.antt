use Rattle.std.proofs.Common.{refl, inl, arith}
use Rattle.h1_codec.specs.View.{view_of}
use Rattle.h1_codec.proofs.Steps.{flush_waits, flush_done, flush_failed}
use Rattle.h1_codec.proofs.sending.Sending.finish.Goals as goal

pub returns-in-Pending-clause-says : goal.returns-in-Pending-clause-says
returns-in-Pending-clause-says g c =
    let v = view_of g.T.Transport.wiring g.B.MessageBody.gives c.args.self.now in
    let w = view_of g.T.Transport.wiring g.B.MessageBody.gives (record c.args.self.now { framed = c.flush.new.self }) in
    let both = flush_waits g.U.Encoder.writes v w c.flush.new.cx.is_woken c.in-Pending.ensures.says c.requires.begun refl refl c.flush.ensures.codec c.flush.ensures.unread refl in
    (both.0, inl (both.1, inl c.requires.ended), omega (arith, both.2))

pub returns-in-Ready-Ok-clause-says : goal.returns-in-Ready-Ok-clause-says
returns-in-Ready-Ok-clause-says g c =
    let v = view_of g.T.Transport.wiring g.B.MessageBody.gives c.args.self.now in
    let w = view_of g.T.Transport.wiring g.B.MessageBody.gives (record c.args.self.now { framed = c.flush.new.self }) in
    let both = flush_done g.U.Encoder.writes v w c.flush.new.cx.is_woken c.in-Ready-Ok.field-0-0 (rw c.in-Ready-Ok.field-0-is at c.in-Ready-Ok.ensures.says) c.requires.begun refl refl
    c.flush.ensures.codec c.flush.ensures.unread refl in
    ((both.0, omega (arith, both.2)), (c.requires.ended, both.1))

pub returns-in-Ready-Err-clause-says : goal.returns-in-Ready-Err-clause-says
returns-in-Ready-Err-clause-says g c =
    let v = view_of g.T.Transport.wiring g.B.MessageBody.gives c.args.self.now in
    let w = view_of g.T.Transport.wiring g.B.MessageBody.gives (record c.args.self.now { framed = c.flush.new.self }) in
    flush_failed g.U.Encoder.writes v w c.flush.new.cx.is_woken 1 c.in-Ready-Err.field-0-0 (rw c.in-Ready-Err.field-0-is at c.in-Ready-Err.ensures.says) c.requires.begun refl refl
    c.flush.ensures.codec c.flush.ensures.unread refl
