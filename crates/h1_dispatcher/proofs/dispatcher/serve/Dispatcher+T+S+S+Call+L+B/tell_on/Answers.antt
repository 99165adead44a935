use Rattle.std.proofs.Common.{Some, [], refl, inl, arith}
use Rattle.model_h1.specs.Event as on
use Rattle.h1_dispatcher.specs.declared.dispatcher.Ending.TheVariants.{Broken}
use Rattle.h1_dispatcher.specs.View.{view_of}
use Rattle.h1_dispatcher.specs.Steps.{continued, failed}
use Rattle.h1_dispatcher.proofs.Runs.{goes_by, lacks}
use Rattle.h1_dispatcher.proofs.dispatcher.serve.Dispatcher+T+S+S+Call+L+B.tell_on.Goals as goal

pub returns-in-Ok-clause-says : goal.returns-in-Ok-clause-says
returns-in-Ok-clause-says g c =
    let v = view_of g.T.Transport.wiring g.S.Service.served g.S.Service.calling g.B.MessageBody.gives g.L.Recorder.noted g.L.Recorder.is_listening c.args.self.now in
    let w = view_of g.T.Transport.wiring g.S.Service.served g.S.Service.calling g.B.MessageBody.gives g.L.Recorder.noted g.L.Recorder.is_listening (record c.args.self.now { traced = c.send_continue.new.self }) in
    goes_by 1 (omega arith) v w continued 1
    ((c.requires.running, c.requires.waits, c.requires.room, c.requires.unchecked), c.requires.told, record { steps = c.in-Ok.ensures.stands; settings = c.send_continue.ensures.settings; listens = c.send_continue.ensures.listening }, refl) tt (omega arith)

pub returns-in-Err-clause-says : goal.returns-in-Err-clause-says
returns-in-Err-clause-says g c =
    let v = view_of g.T.Transport.wiring g.S.Service.served g.S.Service.calling g.B.MessageBody.gives g.L.Recorder.noted g.L.Recorder.is_listening c.args.self.now in
    let w = view_of g.T.Transport.wiring g.S.Service.served g.S.Service.calling g.B.MessageBody.gives g.L.Recorder.noted g.L.Recorder.is_listening (record c.args.self.now { traced = c.send_continue.new.self; ending = Some Broken }) in
    lacks 1 (omega arith) v w (failed on.send_continue) refl (((c.requires.running, c.requires.waits, c.requires.room, c.requires.unchecked), c.requires.told), c.in-Err.ensures.err, refl) (inl (on.send_continue, tt, ([], refl, tt)))
