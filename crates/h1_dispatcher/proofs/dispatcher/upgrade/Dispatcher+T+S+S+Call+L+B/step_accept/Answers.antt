use Rattle.std.proofs.Common.{refl}
use Rattle.h1_dispatcher.specs.View.{view_of}
use Rattle.h1_dispatcher.proofs.Held.{accepts_allowed, accepts_says}
use Rattle.h1_dispatcher.proofs.dispatcher.upgrade.Dispatcher+T+S+S+Call+L+B.step_accept.Goals as goal

pub step-requires : goal.step-requires
step-requires g c =
    let v = view_of g.T.Transport.wiring g.S.Service.served g.S.Service.calling g.B.MessageBody.gives g.L.Recorder.noted g.L.Recorder.is_listening c.args.self.now in
    record { allowed = accepts_allowed v c.args.limit c.requires.can_accept }

pub returns-in-Ok-clause-says : goal.returns-in-Ok-clause-says
returns-in-Ok-clause-says g c =
    let v = view_of g.T.Transport.wiring g.S.Service.served g.S.Service.calling g.B.MessageBody.gives g.L.Recorder.noted g.L.Recorder.is_listening c.args.self.now in
    let w = view_of g.T.Transport.wiring g.S.Service.served g.S.Service.calling g.B.MessageBody.gives g.L.Recorder.noted g.L.Recorder.is_listening (record c.args.self.now { traced = c.step.new.self }) in
    accepts_says v w c.args.limit c.in-Ok.outcome _ c.requires.can_accept c.refusal_in.ensures c.in-Ok.ensures.stands c.step.ensures.settings c.step.ensures.listening refl

pub returns-in-Ok-clause-no_memory_needed : goal.returns-in-Ok-clause-no_memory_needed
returns-in-Ok-clause-no_memory_needed g c = λ unheard takes. refl
