use Rattle.std.proofs.Common.{Some, Err, [], refl, inl, inr, arith}
use Rattle.futures.specs.declared.task.Poll.TheVariants.{Ready}
use Rattle.ws_service.specs.declared.error.UpgradeError.TheVariants.{Io}
use Rattle.ws_service.specs.declared.dispatcher.Ending.TheVariants.{Broken}
use Rattle.ws_service.specs.View.{view_of}
use Rattle.ws_service.specs.Steps.{written, failed_write}
use Rattle.ws_service.proofs.Runs.{ends_by, lacks}
use Rattle.ws_service.proofs.Moves.{unchanged, heard, offered, bounded}
use Rattle.ws_service.proofs.Turns.{written_then, wrote_first}
use Rattle.ws_service.proofs.dispatcher.write.UpgradeDispatcher+T+U+U+Call+L.give.Goals as goal

pub returns-in-Pending-clause-says : goal.returns-in-Pending-clause-says
returns-in-Pending-clause-says g c =
    let v = view_of g.T.Transport.wiring g.U.Service.served g.L.Recorder.noted g.L.Recorder.is_listening c.args.self.now in
    let u = view_of g.T.Transport.wiring g.U.Service.served g.L.Recorder.noted g.L.Recorder.is_listening (record c.args.self.now { transport = c.poll_write.new.self }) in
    let w = view_of g.T.Transport.wiring g.U.Service.served g.L.Recorder.noted g.L.Recorder.is_listening c.go_on.new.self in
    let front = offered v _ c.requires.some (rw c.connection.ensures at c.stretch.ensures.first) (rw c.connection.ensures at c.stretch.ensures.some) in
    written_then v u w c.go_on.result c.requires.running (c.requires.running, (_, front, c.in-Pending.ensures.says), refl, refl) c.go_on.ensures.says

pub returns-in-Ready-Err-clause-says : goal.returns-in-Ready-Err-clause-says
returns-in-Ready-Err-clause-says g c =
    let v = view_of g.T.Transport.wiring g.U.Service.served g.L.Recorder.noted g.L.Recorder.is_listening c.args.self.now in
    let w = view_of g.T.Transport.wiring g.U.Service.served g.L.Recorder.noted g.L.Recorder.is_listening (record c.args.self.now { transport = c.poll_write.new.self }) in
    let front = offered v _ c.requires.some (rw c.connection.ensures at c.stretch.ensures.first) (rw c.connection.ensures at c.stretch.ensures.some) in
    ends_by 4 (omega arith) v w (written (Ready (Err c.in-Ready-Err.field-0-0))) (Err Io)
    (c.requires.running, (_, front, rw c.in-Ready-Err.field-0-is at c.in-Ready-Err.ensures.says), refl, refl)
    (c.in-Ready-Err.field-0-0, inl ([], refl, tt))

pub returns-in-Ok-clause-says : goal.returns-in-Ok-clause-says
returns-in-Ok-clause-says g c =
    let v = view_of g.T.Transport.wiring g.U.Service.served g.L.Recorder.noted g.L.Recorder.is_listening c.args.self.now in
    let w = view_of g.T.Transport.wiring g.U.Service.served g.L.Recorder.noted g.L.Recorder.is_listening (record c.args.self.now { transport = c.poll_write.new.self; traced = c.advance.new.self }) in
    let front = offered v _ c.requires.some (rw c.connection.ensures at c.stretch.ensures.first) (rw c.connection.ensures at c.stretch.ensures.some) in
    let says = rw c.in-Ready-Ok.field-0-is at c.in-Ready-Ok.ensures.says in
    wrote_first v w c.in-Ready-Ok.count (
      c.requires.running,
      (_, front, says),
      (bounded v _ c.in-Ready-Ok.count front says.bound, record { steps = c.in-Ok.ensures.stands; settings = c.advance.ensures.settings }),
      unchanged w v.listening c.advance.ensures.listening,
    )

pub returns-in-Err-clause-says : goal.returns-in-Err-clause-says
returns-in-Err-clause-says g c =
    let v = view_of g.T.Transport.wiring g.U.Service.served g.L.Recorder.noted g.L.Recorder.is_listening c.args.self.now in
    let w = view_of g.T.Transport.wiring g.U.Service.served g.L.Recorder.noted g.L.Recorder.is_listening (record c.args.self.now { transport = c.poll_write.new.self; traced = c.advance.new.self; ending = Some Broken }) in
    let front = offered v _ c.requires.some (rw c.connection.ensures at c.stretch.ensures.first) (rw c.connection.ensures at c.stretch.ensures.some) in
    lacks 4 (omega arith) v w (failed_write c.in-Ready-Ok.count) refl (
      c.requires.running,
      (_, front, rw c.in-Ready-Ok.field-0-is at c.in-Ready-Ok.ensures.says),
      c.in-Err.ensures.err,
      unchanged w v.listening c.advance.ensures.listening,
      heard v.listening c.in-Err.ensures.no_memory_needed,
    )
    (inr (inr (inl (c.in-Ready-Ok.count, ([], refl, tt)))))
