use Rattle.std.proofs.Common.{rules, true, Some, Ok, Err, [], ◌∷◌, refl, inl, inr, arith, take}
use Rattle.futures.specs.declared.task.Poll.TheVariants.{Ready, Pending}
use Rattle.ws_service.specs.declared.error.UpgradeError.TheVariants.{Io}
use Rattle.ws_service.specs.declared.dispatcher.Ending.TheVariants.{Broken}
use Rattle.ws_service.specs.View.{view_of}
use Rattle.ws_service.specs.Steps.{read, failed_read}
use Rattle.ws_service.proofs.Runs.{one, goes_by, ends_by, lacks}
use Rattle.ws_service.proofs.Moves.{unchanged, read_leaves, none_ends, some_goes, read_step, read_fails}
use Rattle.ws_service.proofs.dispatcher.read.UpgradeDispatcher+T+U+U+Call+L.read_into.Goals as goal

pub returns-in-Pending-clause-says : goal.returns-in-Pending-clause-says
returns-in-Pending-clause-says g c =
    let v = view_of g.T.Transport.wiring g.U.Service.served g.L.Recorder.noted g.L.Recorder.is_listening c.args.self.now in
    let w = view_of g.T.Transport.wiring g.U.Service.served g.L.Recorder.noted g.L.Recorder.is_listening (record c.args.self.now { transport = c.poll_read.new.self }) in
    record {
      reading = read [] Pending ∷ [];
      reads = one v w (read [] Pending) (read_step v w [] c.poll_read.new.buf Pending c.requires.running c.requires.eof c.requires.coming (search rules) (search rules) refl c.in-Pending.ensures.says refl
          (read_leaves w v.listening Pending refl c.requires.coming));
      no_input = inl refl;
    }

pub returns-in-Ready-Err-clause-says : goal.returns-in-Ready-Err-clause-says
returns-in-Ready-Err-clause-says g c =
    let v = view_of g.T.Transport.wiring g.U.Service.served g.L.Recorder.noted g.L.Recorder.is_listening c.args.self.now in
    let w = view_of g.T.Transport.wiring g.U.Service.served g.L.Recorder.noted g.L.Recorder.is_listening (record c.args.self.now { transport = c.poll_read.new.self }) in
    let answer = Ready (Err c.in-Ready-Err.field-0-0) in
    ends_by 1 (omega arith) v w (read [] answer) (Err Io)
    (read_step v w [] c.poll_read.new.buf answer c.requires.running c.requires.eof c.requires.coming (search rules) (search rules) refl (rw c.in-Ready-Err.field-0-is at c.in-Ready-Err.ensures.says) refl
    (read_leaves w v.listening answer refl c.requires.coming))
    (c.in-Ready-Err.field-0-0, inr (inl ([], ([], refl, tt))))

pub returns-in-Ready-Ok-eq0-clause-says : goal.returns-in-Ready-Ok-eq0-clause-says
returns-in-Ready-Ok-eq0-clause-says g c =
    let v = view_of g.T.Transport.wiring g.U.Service.served g.L.Recorder.noted g.L.Recorder.is_listening c.args.self.now in
    let w = view_of g.T.Transport.wiring g.U.Service.served g.L.Recorder.noted g.L.Recorder.is_listening (record c.args.self.now { transport = c.poll_read.new.self; is_input_ended = true }) in
    let n = c.in-Ready-Ok-eq0.field-0-0 in
    goes_by 1 (omega arith) v w (read (take n c.poll_read.new.buf) (Ready (Ok n))) 1
    (read_step v w (take n c.poll_read.new.buf) c.poll_read.new.buf (Ready (Ok n)) c.requires.running c.requires.eof c.requires.coming (search rules) (search rules) refl
    (rw c.in-Ready-Ok-eq0.field-0-is at c.in-Ready-Ok-eq0.ensures.says) (inl (search rules, refl)) (read_leaves w v.listening (Ready (Ok n)) refl (none_ends n (search rules)))) tt (omega arith)

pub returns-in-Ok-clause-says : goal.returns-in-Ok-clause-says
returns-in-Ok-clause-says g c =
    let v = view_of g.T.Transport.wiring g.U.Service.served g.L.Recorder.noted g.L.Recorder.is_listening c.args.self.now in
    let w = view_of g.T.Transport.wiring g.U.Service.served g.L.Recorder.noted g.L.Recorder.is_listening (record c.args.self.now { transport = c.poll_read.new.self; traced = c.read.new.self }) in
    let n = c.in-Ready-Ok.count in
    goes_by 1 (omega arith) v w (read (take n c.poll_read.new.buf) (Ready (Ok n))) 1
    (read_step v w (take n c.poll_read.new.buf) c.poll_read.new.buf (Ready (Ok n)) c.requires.running c.requires.eof c.requires.coming (search rules) (search rules) refl
    (rw c.in-Ready-Ok.field-0-is at c.in-Ready-Ok.ensures.says)
    (inr (search rules, (c.in-Ok.field-0, record { steps = c.in-Ok.ensures.stands; settings = c.read.ensures.settings })))
    (read_leaves w v.listening (Ready (Ok n)) c.read.ensures.listening (some_goes v.input_ended n (search rules) c.requires.coming))) tt (omega arith)

pub returns-in-Err-clause-says : goal.returns-in-Err-clause-says
returns-in-Err-clause-says g c =
    let v = view_of g.T.Transport.wiring g.U.Service.served g.L.Recorder.noted g.L.Recorder.is_listening c.args.self.now in
    let w = view_of g.T.Transport.wiring g.U.Service.served g.L.Recorder.noted g.L.Recorder.is_listening (record c.args.self.now { transport = c.poll_read.new.self; traced = c.read.new.self; ending = Some Broken }) in
    let n = c.in-Ready-Ok.count in
    lacks 1 (omega arith) v w (failed_read (take n c.poll_read.new.buf)) refl
    (read_fails v w (take n c.poll_read.new.buf) c.poll_read.new.buf n c.requires.running c.requires.eof c.requires.coming (search rules) (search rules) refl
    (rw c.in-Ready-Ok.field-0-is at c.in-Ready-Ok.ensures.says) (search rules) c.in-Err.ensures.err (unchanged w v.listening c.read.ensures.listening))
    (inr (inr (inr (take n c.poll_read.new.buf, ([], refl, tt)))))
