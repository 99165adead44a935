use Rattle.std.proofs.Common.{refl, inl, inr, arith}
use Rattle.futures.specs.declared.task.Poll.TheVariants.{Pending}
use Rattle.h1_codec.specs.View.{view_of}
use Rattle.h1_codec.proofs.Steps.{fewer, flush_waits, flush_moves, flush_relieves, flush_failed}
use Rattle.h1_codec.proofs.Behind.{it_is, it_is_not}
use Rattle.h1_codec.proofs.sending.Sending.relieve.Goals as goal

pub returns-then-is_write_buf_full-clause-says : goal.returns-then-is_write_buf_full-clause-says
returns-then-is_write_buf_full-clause-says g c =
    let v = view_of g.T.Transport.wiring g.B.MessageBody.gives c.args.self.now in
    let w = view_of g.T.Transport.wiring g.B.MessageBody.gives (record c.args.self.now { framed = c.flush.new.self }) in
    let both = flush_waits g.U.Encoder.writes v w c.flush.new.cx.is_woken c.in-Pending.ensures.says c.requires.begun refl refl c.flush.ensures.codec c.flush.ensures.unread refl in
    (both.0, inl (both.1, inr (inl (it_is c.if-is_write_buf_full.ensures))), omega (arith, both.2))

pub returns-else-is_write_buf_full-clause-says : goal.returns-else-is_write_buf_full-clause-says
returns-else-is_write_buf_full-clause-says g c =
    let v = view_of g.T.Transport.wiring g.B.MessageBody.gives c.args.self.now in
    let w = view_of g.T.Transport.wiring g.B.MessageBody.gives (record c.args.self.now { framed = c.flush.new.self }) in
    flush_moves g.U.Encoder.writes v w c.flush.new.cx.is_woken Pending c.in-Pending.ensures.says (fewer (it_is_not c.if-is_write_buf_full.ensures) c.requires.full)
    c.requires.begun refl refl c.flush.ensures.codec c.flush.ensures.unread refl

pub returns-in-Ready-Ok-clause-says : goal.returns-in-Ready-Ok-clause-says
returns-in-Ready-Ok-clause-says g c =
    let v = view_of g.T.Transport.wiring g.B.MessageBody.gives c.args.self.now in
    let w = view_of g.T.Transport.wiring g.B.MessageBody.gives (record c.args.self.now { framed = c.flush.new.self }) in
    flush_relieves g.U.Encoder.writes v w c.flush.new.cx.is_woken c.in-Ready-Ok.field-0-0 (rw c.in-Ready-Ok.field-0-is at c.in-Ready-Ok.ensures.says) (omega (arith, c.requires.full)) c.requires.begun refl refl
    c.flush.ensures.codec c.flush.ensures.unread refl

pub returns-in-Ready-Err-clause-says : goal.returns-in-Ready-Err-clause-says
returns-in-Ready-Err-clause-says g c =
    let v = view_of g.T.Transport.wiring g.B.MessageBody.gives c.args.self.now in
    let w = view_of g.T.Transport.wiring g.B.MessageBody.gives (record c.args.self.now { framed = c.flush.new.self }) in
    flush_failed g.U.Encoder.writes v w c.flush.new.cx.is_woken 1 c.in-Ready-Err.field-0-0 (rw c.in-Ready-Err.field-0-is at c.in-Ready-Err.ensures.says) c.requires.begun refl refl
    c.flush.ensures.codec c.flush.ensures.unread refl
