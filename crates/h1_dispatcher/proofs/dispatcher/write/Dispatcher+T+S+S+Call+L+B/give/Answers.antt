use Rattle.std.proofs.Common.{Some, Err, [], refl, inl, inr, arith}
use Rattle.std.proofs.lemmas.Bool.{false≢true}
use Rattle.futures.specs.declared.task.Poll.TheVariants.{Ready}
use Rattle.http_types.specs.declared.error.DispatchError.TheVariants.{Io}
use Rattle.h1_dispatcher.specs.declared.dispatcher.Ending.TheVariants.{Broken}
use Rattle.h1_dispatcher.specs.View.{view_of}
use Rattle.h1_dispatcher.specs.Steps.{written, failed_write}
use Rattle.h1_dispatcher.proofs.Runs.{ends_by, lacks}
use Rattle.h1_dispatcher.proofs.Stretches.{all_offered}
use Rattle.h1_dispatcher.proofs.Turns.{written_then, wrote_first}
use Rattle.h1_dispatcher.proofs.dispatcher.write.Dispatcher+T+S+S+Call+L+B.give.Goals as goal

pub returns-in-Pending-clause-says : goal.returns-in-Pending-clause-says
returns-in-Pending-clause-says g c =
    let v = view_of g.T.Transport.wiring g.S.Service.served g.S.Service.calling g.B.MessageBody.gives g.L.Recorder.noted g.L.Recorder.is_listening c.args.self.now in
    let u = view_of g.T.Transport.wiring g.S.Service.served g.S.Service.calling g.B.MessageBody.gives g.L.Recorder.noted g.L.Recorder.is_listening (record c.args.self.now { transport = c.poll_write.new.self }) in
    let w = view_of g.T.Transport.wiring g.S.Service.served g.S.Service.calling g.B.MessageBody.gives g.L.Recorder.noted g.L.Recorder.is_listening c.go_on.new.self in
    written_then v u w c.go_on.result c.requires.running
    (c.requires.running, c.requires.some, all_offered _ _ _ _ _ (rw c.connection.ensures at c.stretch.ensures.first) (rw c.connection.ensures at c.stretch.ensures.some) c.in-Pending.ensures.says, refl, refl) c.go_on.ensures.says

pub returns-in-Ready-Err-clause-says : goal.returns-in-Ready-Err-clause-says
returns-in-Ready-Err-clause-says g c =
    let v = view_of g.T.Transport.wiring g.S.Service.served g.S.Service.calling g.B.MessageBody.gives g.L.Recorder.noted g.L.Recorder.is_listening c.args.self.now in
    let w = view_of g.T.Transport.wiring g.S.Service.served g.S.Service.calling g.B.MessageBody.gives g.L.Recorder.noted g.L.Recorder.is_listening (record c.args.self.now { transport = c.poll_write.new.self }) in
    ends_by 5 (omega arith) v w (written (Ready (Err c.in-Ready-Err.field-0-0))) (Err Io)
    (c.requires.running, c.requires.some, all_offered _ _ _ _ _ (rw c.connection.ensures at c.stretch.ensures.first) (rw c.connection.ensures at c.stretch.ensures.some) (rw c.in-Ready-Err.field-0-is at c.in-Ready-Err.ensures.says), refl, refl)
    (c.in-Ready-Err.field-0-0, inl ([], refl, tt)) tt

pub returns-in-Ok-clause-says : goal.returns-in-Ok-clause-says
returns-in-Ok-clause-says g c =
    let v = view_of g.T.Transport.wiring g.S.Service.served g.S.Service.calling g.B.MessageBody.gives g.L.Recorder.noted g.L.Recorder.is_listening c.args.self.now in
    let w = view_of g.T.Transport.wiring g.S.Service.served g.S.Service.calling g.B.MessageBody.gives g.L.Recorder.noted g.L.Recorder.is_listening (record c.args.self.now { transport = c.poll_write.new.self; traced = c.advance.new.self }) in
    let says = all_offered _ _ _ _ _ (rw c.connection.ensures at c.stretch.ensures.first) (rw c.connection.ensures at c.stretch.ensures.some) (rw c.in-Ready-Ok.field-0-is at c.in-Ready-Ok.ensures.says) in
    wrote_first v w c.in-Ready-Ok.count (c.requires.running, c.requires.some, says, (says.bound, record { steps = c.in-Ok.ensures.stands; settings = c.advance.ensures.settings; listens = c.advance.ensures.listening }), refl)

pub returns-in-Err-clause-says : goal.returns-in-Err-clause-says
returns-in-Err-clause-says g c =
    let v = view_of g.T.Transport.wiring g.S.Service.served g.S.Service.calling g.B.MessageBody.gives g.L.Recorder.noted g.L.Recorder.is_listening c.args.self.now in
    let w = view_of g.T.Transport.wiring g.S.Service.served g.S.Service.calling g.B.MessageBody.gives g.L.Recorder.noted g.L.Recorder.is_listening (record c.args.self.now { transport = c.poll_write.new.self; traced = c.advance.new.self; ending = Some Broken }) in
    lacks 5 (omega arith) v w (failed_write c.in-Ready-Ok.count) refl
    (c.requires.running, c.requires.some, all_offered _ _ _ _ _ (rw c.connection.ensures at c.stretch.ensures.first) (rw c.connection.ensures at c.stretch.ensures.some) (rw c.in-Ready-Ok.field-0-is at c.in-Ready-Ok.ensures.says), c.in-Err.ensures.err, refl, λ unheard. false≢true (c.in-Err.ensures.no_memory_needed unheard))
    (inr (inl (c.in-Ready-Ok.count, ([], refl, tt))))
