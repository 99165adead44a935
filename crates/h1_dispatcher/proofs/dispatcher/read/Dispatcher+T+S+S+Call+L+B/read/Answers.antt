use Rattle.std.proofs.Common.{rules, Some, Ok, Err, [], ◌∷◌, refl, inl, inr, arith, take}
use Rattle.futures.specs.declared.task.Poll.TheVariants.{Ready, Pending}
use Rattle.http_types.specs.declared.error.DispatchError.TheVariants.{Io}
use Rattle.model_h1.specs.Event as on
use Rattle.h1_dispatcher.specs.declared.dispatcher.Ending.TheVariants.{Broken}
use Rattle.h1_dispatcher.specs.View.{view_of}
use Rattle.h1_dispatcher.specs.Steps.{read, failed_read}
use Rattle.h1_dispatcher.proofs.Runs.{one, goes_by, ends_by, lacks}
use Rattle.h1_dispatcher.proofs.Moves.{read_step, read_fails}
use Rattle.h1_dispatcher.proofs.dispatcher.read.Dispatcher+T+S+S+Call+L+B.read.Goals as goal

pub returns-in-Pending-clause-says : goal.returns-in-Pending-clause-says
returns-in-Pending-clause-says g c =
    let v = view_of g.T.Transport.wiring g.S.Service.served g.S.Service.calling g.B.MessageBody.gives g.L.Recorder.noted g.L.Recorder.is_listening c.args.self.now in
    let w = view_of g.T.Transport.wiring g.S.Service.served g.S.Service.calling g.B.MessageBody.gives g.L.Recorder.noted g.L.Recorder.is_listening (record c.args.self.now { transport = c.poll_read.new.self }) in
    record {
      reading = read [] Pending ∷ [];
      reads = one v w (read [] Pending) (read_step v w [] c.poll_read.new.buf Pending c.requires.running c.requires.eof (search rules) (search rules) refl c.in-Pending.ensures.says refl refl);
      no_input = inl refl;
    }

pub returns-in-Ready-Err-clause-says : goal.returns-in-Ready-Err-clause-says
returns-in-Ready-Err-clause-says g c =
    let v = view_of g.T.Transport.wiring g.S.Service.served g.S.Service.calling g.B.MessageBody.gives g.L.Recorder.noted g.L.Recorder.is_listening c.args.self.now in
    let w = view_of g.T.Transport.wiring g.S.Service.served g.S.Service.calling g.B.MessageBody.gives g.L.Recorder.noted g.L.Recorder.is_listening (record c.args.self.now { transport = c.poll_read.new.self }) in
    let answer = Ready (Err c.in-Ready-Err.field-0-0) in
    ends_by 1 (omega arith) v w (read [] answer) (Err Io)
    (read_step v w [] c.poll_read.new.buf answer c.requires.running c.requires.eof (search rules) (search rules) refl (rw c.in-Ready-Err.field-0-is at c.in-Ready-Err.ensures.says) refl refl)
    (c.in-Ready-Err.field-0-0, inr (inl ([], ([], refl, tt)))) tt

pub returns-in-Ok-clause-says : goal.returns-in-Ok-clause-says
returns-in-Ok-clause-says g c =
    let v = view_of g.T.Transport.wiring g.S.Service.served g.S.Service.calling g.B.MessageBody.gives g.L.Recorder.noted g.L.Recorder.is_listening c.args.self.now in
    let w = view_of g.T.Transport.wiring g.S.Service.served g.S.Service.calling g.B.MessageBody.gives g.L.Recorder.noted g.L.Recorder.is_listening (record c.args.self.now { transport = c.poll_read.new.self; traced = c.eof.new.self }) in
    let n = c.in-Ready-Ok-eq0.field-0-0 in
    goes_by 1 (omega arith) v w (read (take n c.poll_read.new.buf) (Ready (Ok n))) 1
    (read_step v w (take n c.poll_read.new.buf) c.poll_read.new.buf (Ready (Ok n)) c.requires.running c.requires.eof (search rules) (search rules) refl
    (rw c.in-Ready-Ok-eq0.field-0-is at c.in-Ready-Ok-eq0.ensures.says)
    (inl (search rules, record { steps = c.in-Ok.ensures.stands; settings = c.eof.ensures.settings; listens = c.eof.ensures.listening })) refl) tt (omega arith)

pub returns-in-Err-clause-says : goal.returns-in-Err-clause-says
returns-in-Err-clause-says g c =
    let v = view_of g.T.Transport.wiring g.S.Service.served g.S.Service.calling g.B.MessageBody.gives g.L.Recorder.noted g.L.Recorder.is_listening c.args.self.now in
    let w = view_of g.T.Transport.wiring g.S.Service.served g.S.Service.calling g.B.MessageBody.gives g.L.Recorder.noted g.L.Recorder.is_listening (record c.args.self.now { transport = c.poll_read.new.self; traced = c.eof.new.self; ending = Some Broken }) in
    let n = c.in-Ready-Ok-eq0.field-0-0 in
    lacks 1 (omega arith) v w (failed_read (take n c.poll_read.new.buf) on.eof) refl
    (read_fails v w (take n c.poll_read.new.buf) c.poll_read.new.buf n on.eof c.requires.running c.requires.eof (search rules) (search rules) refl
    (rw c.in-Ready-Ok-eq0.field-0-is at c.in-Ready-Ok-eq0.ensures.says) (inl (search rules, refl)) c.in-Err.ensures.err refl)
    (inr (inr (inl (take n c.poll_read.new.buf, on.eof, ([], refl, tt)))))

pub returns-in-Ok-read-clause-says : goal.returns-in-Ok-read-clause-says
returns-in-Ok-read-clause-says g c =
    let v = view_of g.T.Transport.wiring g.S.Service.served g.S.Service.calling g.B.MessageBody.gives g.L.Recorder.noted g.L.Recorder.is_listening c.args.self.now in
    let w = view_of g.T.Transport.wiring g.S.Service.served g.S.Service.calling g.B.MessageBody.gives g.L.Recorder.noted g.L.Recorder.is_listening (record c.args.self.now { transport = c.poll_read.new.self; traced = c.read.new.self }) in
    let n = c.in-Ready-Ok.count in
    goes_by 1 (omega arith) v w (read (take n c.poll_read.new.buf) (Ready (Ok n))) 1
    (read_step v w (take n c.poll_read.new.buf) c.poll_read.new.buf (Ready (Ok n)) c.requires.running c.requires.eof (search rules) (search rules) refl
    (rw c.in-Ready-Ok.field-0-is at c.in-Ready-Ok.ensures.says)
    (inr (search rules, (c.in-Ok-read.field-0, record { steps = c.in-Ok-read.ensures.stands; settings = c.read.ensures.settings; listens = c.read.ensures.listening }))) refl) tt (omega arith)

pub returns-in-Err-read-clause-says : goal.returns-in-Err-read-clause-says
returns-in-Err-read-clause-says g c =
    let v = view_of g.T.Transport.wiring g.S.Service.served g.S.Service.calling g.B.MessageBody.gives g.L.Recorder.noted g.L.Recorder.is_listening c.args.self.now in
    let w = view_of g.T.Transport.wiring g.S.Service.served g.S.Service.calling g.B.MessageBody.gives g.L.Recorder.noted g.L.Recorder.is_listening (record c.args.self.now { transport = c.poll_read.new.self; traced = c.read.new.self; ending = Some Broken }) in
    let n = c.in-Ready-Ok.count in
    lacks 1 (omega arith) v w (failed_read (take n c.poll_read.new.buf) (on.read (take n c.poll_read.new.buf))) refl
    (read_fails v w (take n c.poll_read.new.buf) c.poll_read.new.buf n (on.read (take n c.poll_read.new.buf)) c.requires.running c.requires.eof (search rules) (search rules) refl
    (rw c.in-Ready-Ok.field-0-is at c.in-Ready-Ok.ensures.says) (inr (search rules, refl)) c.in-Err-read.ensures.err refl)
    (inr (inr (inl (take n c.poll_read.new.buf, on.read (take n c.poll_read.new.buf), ([], refl, tt)))))
