use Rattle.std.proofs.Common.{refl, ap, true, Some, Err, arith}
use Rattle.futures.specs.declared.task.Poll.TheVariants.{Ready, Pending}
use Rattle.http_bodies.specs.declared.body.fault.BodyFault.TheVariants as faults
use Rattle.h1_codec.specs.View.{view_of}
use Rattle.h1_codec.proofs.Steps.{nothing_few, fault_sent, empty_moves, chunk_moves, end_moves}
use Rattle.h1_codec.proofs.Whole.{no_bytes, some_bytes}
use Rattle.h1_codec.proofs.sending.Sending.feed.Goals as goal

pub returns-in-Pending-clause-says : goal.returns-in-Pending-clause-says
returns-in-Pending-clause-says g c =
    let v = view_of g.T.Transport.wiring g.B.MessageBody.gives c.args.self.now in
    let w = view_of g.T.Transport.wiring g.B.MessageBody.gives (record c.args.self.now { body = c.poll_next.new.self }) in
    let says = c.in-Pending.ensures.says in
    (nothing_few g.U.Encoder.writes v w Pending says refl c.requires.begun c.requires.begun c.requires.unended c.requires.unended refl refl refl refl, says.waits.1)

pub returns-in-Ready-Some-Err-Body-clause-says : goal.returns-in-Ready-Some-Err-Body-clause-says
returns-in-Ready-Some-Err-Body-clause-says g c =
    let v = view_of g.T.Transport.wiring g.B.MessageBody.gives c.args.self.now in
    let w = view_of g.T.Transport.wiring g.B.MessageBody.gives (record c.args.self.now { body = c.poll_next.new.self }) in
    let here = c.in-Ready-Some-Err-Body in
    let says = rw (here.field-0-is, here.field-0-0-is, here.field-0-0-0-is) at here.ensures.says in
    fault_sent g.U.Encoder.writes v w here.number says c.requires.begun c.requires.begun c.requires.unended c.requires.unended refl refl refl refl

pub returns-in-Ready-Some-Err-NoMemory-clause-says : goal.returns-in-Ready-Some-Err-NoMemory-clause-says
returns-in-Ready-Some-Err-NoMemory-clause-says g c =
    let v = view_of g.T.Transport.wiring g.B.MessageBody.gives c.args.self.now in
    let w = view_of g.T.Transport.wiring g.B.MessageBody.gives (record c.args.self.now { body = c.poll_next.new.self }) in
    let here = c.in-Ready-Some-Err-NoMemory in
    let says = rw (here.field-0-is, here.field-0-0-is, here.field-0-0-0-is) at here.ensures.says in
    let none = nothing_few g.U.Encoder.writes v w (Ready (Some (Err faults.NoMemory))) says refl c.requires.begun c.requires.begun c.requires.unended c.requires.unended refl refl refl refl in
    ((none.0, omega (arith, none.1)), says.lacks)

pub returns-then-is_empty-clause-says : goal.returns-then-is_empty-clause-says
returns-then-is_empty-clause-says g c =
    let v = view_of g.T.Transport.wiring g.B.MessageBody.gives c.args.self.now in
    let w = view_of g.T.Transport.wiring g.B.MessageBody.gives (record c.args.self.now { body = c.poll_next.new.self }) in
    let here = c.in-Ready-Some-Ok in
    let says = rw (here.field-0-is, here.field-0-0-is) at here.ensures.says in
    empty_moves g.U.Encoder.writes v w here.bytes (no_bytes here.bytes c.if-is_empty.ensures) says c.requires.begun c.requires.begun c.requires.unended c.requires.unended refl refl refl refl

pub returns-in-Ok-clause-says : goal.returns-in-Ok-clause-says
returns-in-Ok-clause-says g c =
    let v = view_of g.T.Transport.wiring g.B.MessageBody.gives c.args.self.now in
    let w = view_of g.T.Transport.wiring g.B.MessageBody.gives (record c.args.self.now { framed = c.write.new.self; body = c.poll_next.new.self }) in
    let here = c.in-Ready-Some-Ok in
    let says = rw (here.field-0-is, here.field-0-0-is) at here.ensures.says in
    let wrote = c.in-Ok.ensures.ok in
    chunk_moves g.U.Encoder.writes v w c.requires.room here.bytes wrote.0 (some_bytes here.bytes c.if-is_empty.ensures) says c.requires.begun c.requires.begun c.requires.unended c.requires.unended
    (ap g.T.Transport.wiring c.write.ensures.io) wrote.2 c.write.ensures.unread wrote.1

pub returns-in-Ok-write-clause-says : goal.returns-in-Ok-write-clause-says
returns-in-Ok-write-clause-says g c =
    let v = view_of g.T.Transport.wiring g.B.MessageBody.gives c.args.self.now in
    let w = view_of g.T.Transport.wiring g.B.MessageBody.gives (record c.args.self.now { framed = c.write-in-Ready-None.new.self; body = c.poll_next.new.self; is_ended = true }) in
    let says = rw c.in-Ready-None.field-0-is at c.in-Ready-None.ensures.says in
    let wrote = c.in-Ok-write.ensures.ok in
    end_moves g.U.Encoder.writes v w c.requires.room wrote.0 says c.requires.begun c.requires.begun c.requires.unended refl
    (ap g.T.Transport.wiring c.write-in-Ready-None.ensures.io) wrote.2 c.write-in-Ready-None.ensures.unread wrote.1
