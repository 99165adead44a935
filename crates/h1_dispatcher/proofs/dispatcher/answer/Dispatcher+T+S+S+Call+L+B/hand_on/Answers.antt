use Rattle.std.proofs.Common.{Some, [], refl, inl, arith, rules}
use Rattle.model_h1.specs.Event as on
use Rattle.h1_dispatcher.specs.declared.dispatcher.Ending.TheVariants.{Broken}
use Rattle.h1_dispatcher.specs.View.{view_of}
use Rattle.h1_dispatcher.specs.Steps.{dropped, failed}
use Rattle.h1_dispatcher.proofs.Drops.{drop_leaves_with}
use Rattle.h1_dispatcher.proofs.Runs.{lacks}
use Rattle.h1_dispatcher.proofs.Turns.{drop_then, more_end}
use Rattle.h1_dispatcher.proofs.dispatcher.answer.Dispatcher+T+S+S+Call+L+B.hand_on.Goals as goal

pub returns-then-not-can_pull-clause-says : goal.returns-then-not-can_pull-clause-says
returns-then-not-can_pull-clause-says g c =
    let v = view_of g.T.Transport.wiring g.S.Service.served g.S.Service.calling g.B.MessageBody.gives g.L.Recorder.noted g.L.Recorder.is_listening c.args.self.now in
    let w = view_of g.T.Transport.wiring g.S.Service.served g.S.Service.calling g.B.MessageBody.gives g.L.Recorder.noted g.L.Recorder.is_listening c.put_reply.new.self in
    more_end v w c.put_reply.result c.put_reply.ensures.says

pub returns-in-Ok-clause-says : goal.returns-in-Ok-clause-says
returns-in-Ok-clause-says g c =
    let v = view_of g.T.Transport.wiring g.S.Service.served g.S.Service.calling g.B.MessageBody.gives g.L.Recorder.noted g.L.Recorder.is_listening c.args.self.now in
    let u = view_of g.T.Transport.wiring g.S.Service.served g.S.Service.calling g.B.MessageBody.gives g.L.Recorder.noted g.L.Recorder.is_listening (record c.args.self.now { traced = c.drop_body.new.self }) in
    let w = view_of g.T.Transport.wiring g.S.Service.served g.S.Service.calling g.B.MessageBody.gives g.L.Recorder.noted g.L.Recorder.is_listening c.put_reply_if_allowed.new.self in
    drop_then v u w dropped c.put_reply_if_allowed.result
    (c.requires.running, c.requires.answered, record { steps = c.in-Ok.ensures.stands; settings = c.drop_body.ensures.settings; listens = c.drop_body.ensures.listening }, refl) tt (omega arith) c.put_reply_if_allowed.ensures.says

pub returns-in-Err-clause-says : goal.returns-in-Err-clause-says
returns-in-Err-clause-says g c =
    let v = view_of g.T.Transport.wiring g.S.Service.served g.S.Service.calling g.B.MessageBody.gives g.L.Recorder.noted g.L.Recorder.is_listening c.args.self.now in
    let w = view_of g.T.Transport.wiring g.S.Service.served g.S.Service.calling g.B.MessageBody.gives g.L.Recorder.noted g.L.Recorder.is_listening (record c.args.self.now { traced = c.drop_body.new.self; ending = Some Broken }) in
    lacks 2 (omega arith) v w (failed on.drop_body) refl ((c.requires.running, c.requires.answered, search rules), c.in-Err.ensures.err, refl) (inl (on.drop_body, tt, ([], refl, tt)))

pub returns-then-not-can_pull-clause-handed : goal.returns-then-not-can_pull-clause-handed
returns-then-not-can_pull-clause-handed g c = λ trace stands. c.put_reply.ensures.handed

pub returns-in-Ok-clause-handed : goal.returns-in-Ok-clause-handed
returns-in-Ok-clause-handed g c =
    let v = view_of g.T.Transport.wiring g.S.Service.served g.S.Service.calling g.B.MessageBody.gives g.L.Recorder.noted g.L.Recorder.is_listening c.args.self.now in
    let u = view_of g.T.Transport.wiring g.S.Service.served g.S.Service.calling g.B.MessageBody.gives g.L.Recorder.noted g.L.Recorder.is_listening (record c.args.self.now { traced = c.drop_body.new.self }) in
    λ trace stands.
    let x = c.in-Ok.ensures.stands trace stands in
    let left = drop_leaves_with v.traced.state.settings u.traced.state.settings v.traced.state.kept u.traced.state.kept x.0 c.drop_body.ensures.settings c.requires.allowed x.2.machine in
    c.put_reply_if_allowed.ensures.handed left.0 left.1

pub returns-in-Err-clause-handed : goal.returns-in-Err-clause-handed
returns-in-Err-clause-handed g c = λ trace stands. refl
