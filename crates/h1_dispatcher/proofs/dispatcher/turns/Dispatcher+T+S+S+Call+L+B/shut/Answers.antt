use Rattle.std.proofs.Common.{[], Err, refl, inr, arith}
use Rattle.futures.specs.declared.task.Poll.TheVariants.{Ready}
use Rattle.http_types.specs.declared.error.DispatchError.TheVariants.{Io}
use Rattle.h1_dispatcher.specs.View.{view_of}
use Rattle.h1_dispatcher.specs.Steps.{shut}
use Rattle.h1_dispatcher.proofs.Runs.{ends_by}
use Rattle.h1_dispatcher.proofs.Turns.{shut_over}
use Rattle.h1_dispatcher.proofs.dispatcher.turns.Dispatcher+T+S+S+Call+L+B.shut.Goals as goal

pub returns-in-Ready-Err-clause-says : goal.returns-in-Ready-Err-clause-says
returns-in-Ready-Err-clause-says g c =
    let v = view_of g.T.Transport.wiring g.S.Service.served g.S.Service.calling g.B.MessageBody.gives g.L.Recorder.noted g.L.Recorder.is_listening c.args.self.now in
    let w = view_of g.T.Transport.wiring g.S.Service.served g.S.Service.calling g.B.MessageBody.gives g.L.Recorder.noted g.L.Recorder.is_listening (record c.args.self.now { transport = c.poll_shutdown.new.self }) in
    ends_by 5 (omega arith) v w (shut (Ready (Err c.in-Ready-Err.field-0-0))) (Err Io)
    ((c.args.end, c.requires.ended), rw c.in-Ready-Err.field-0-is at c.in-Ready-Err.ensures.says, refl)
    (c.in-Ready-Err.field-0-0, inr (inr ([], refl, tt))) tt

pub returns-in-Ready-Ok-clause-says : goal.returns-in-Ready-Ok-clause-says
returns-in-Ready-Ok-clause-says g c =
    let v = view_of g.T.Transport.wiring g.S.Service.served g.S.Service.calling g.B.MessageBody.gives g.L.Recorder.noted g.L.Recorder.is_listening c.args.self.now in
    let w = view_of g.T.Transport.wiring g.S.Service.served g.S.Service.calling g.B.MessageBody.gives g.L.Recorder.noted g.L.Recorder.is_listening (record c.args.self.now { transport = c.poll_shutdown.new.self }) in
    shut_over v w c.args.end c.result_of_end.result c.result_of_end.ensures c.requires.ended
    ((c.args.end, c.requires.ended), rw c.in-Ready-Ok.field-0-is at c.in-Ready-Ok.ensures.says, refl)
