use Rattle.std.proofs.Common.{Some, is_some, [], refl, ap, inl, arith}
use Rattle.model_h1.specs.Event as on
use Rattle.h1_dispatcher.specs.declared.dispatcher.Ending.TheVariants.{Closed, Broken}
use Rattle.h1_dispatcher.specs.View.{view_of}
use Rattle.h1_dispatcher.specs.Steps.{closed, failed}
use Rattle.h1_dispatcher.proofs.Runs.{goes_by, lacks}
use Rattle.h1_dispatcher.proofs.dispatcher.write.Dispatcher+T+S+S+Call+L+B.tell_end.Goals as goal
use Rattle.h1_dispatcher.proofs.dispatcher.write.Dispatcher+T+S+S+Call+L+B.tell_end.Goals.{in-Ok, in-Err}

pub returns-clause-says : goal.returns-clause-says
returns-clause-says g c =
    let v = view_of g.T.Transport.wiring g.S.Service.served g.S.Service.calling g.B.MessageBody.gives g.L.Recorder.noted g.L.Recorder.is_listening c.args.self.now in
    elim c.match-next.branch [
      | in-Ok w ↦
          (let u = view_of g.T.Transport.wiring g.S.Service.served g.S.Service.calling g.B.MessageBody.gives g.L.Recorder.noted g.L.Recorder.is_listening (record c.args.self.now { traced = c.next.new.self; ending = Some (Closed c.args.end) }) in
          rw (w.self-is, w.result-is)
          (goes_by 1 (omega arith) v u (closed c.args.end) 1
          (c.requires.running, c.requires.closing, c.requires.allowed, (w.in-Ok.field-0, record { steps = w.in-Ok.ensures.stands; settings = c.next.ensures.settings; listens = c.next.ensures.listening }), refl) tt (omega arith)))
      | in-Err w ↦
          (let u = view_of g.T.Transport.wiring g.S.Service.served g.S.Service.calling g.B.MessageBody.gives g.L.Recorder.noted g.L.Recorder.is_listening (record c.args.self.now { traced = c.next.new.self; ending = Some Broken }) in
          rw (w.self-is, w.result-is) (lacks 1 (omega arith) v u (failed on.next) refl ((c.requires.running, c.requires.allowed, inl (ap is_some c.requires.closing)), w.in-Err.ensures.err, refl) (inl (on.next, tt, ([], refl, tt)))))
    ]
