use Rattle.std.proofs.Common.{Some, [], refl, ap, ◌∙◌, inl, inr, arith}
use Rattle.http_services.specs.Queue.{fed_data, fed_trailers, fed_end, fed_error}
use Rattle.model_h1.specs.Event as on
use Rattle.h1_payload.specs.declared.pulled.Pulled.TheVariants as pieces
use Rattle.h1_dispatcher.specs.declared.dispatcher.Ending.TheVariants.{Broken}
use Rattle.h1_dispatcher.specs.View.{view_of}
use Rattle.h1_dispatcher.specs.Steps.{pulled, failed, failed_fed}
use Rattle.h1_dispatcher.proofs.Runs.{goes_by, lacks}
use Rattle.h1_dispatcher.proofs.Turns.{waited_then}
use Rattle.h1_dispatcher.proofs.Moves.{fed_step, fed_fails}
use Rattle.h1_dispatcher.proofs.dispatcher.feed.Dispatcher+T+S+S+Call+L+B.pull.Goals as goal

pub returns-in-Ok-Pending-clause-says : goal.returns-in-Ok-Pending-clause-says
returns-in-Ok-Pending-clause-says g c =
    let v = view_of g.T.Transport.wiring g.S.Service.served g.S.Service.calling g.B.MessageBody.gives g.L.Recorder.noted g.L.Recorder.is_listening c.args.self.now in
    let u = view_of g.T.Transport.wiring g.S.Service.served g.S.Service.calling g.B.MessageBody.gives g.L.Recorder.noted g.L.Recorder.is_listening (record c.args.self.now { traced = c.pull.new.self }) in
    let w = view_of g.T.Transport.wiring g.S.Service.served g.S.Service.calling g.B.MessageBody.gives g.L.Recorder.noted g.L.Recorder.is_listening c.read_on.new.self in
    waited_then v u w (pulled pieces.Pending) c.read_on.result
    (fed_step v u pieces.Pending c.requires.wants (rw c.in-Ok-Pending.field-0-is at c.in-Ok-Pending.ensures.stands) c.pull.ensures.settings c.pull.ensures.listening refl refl) tt (inl refl) c.read_on.ensures.says

pub returns-in-Ok-clause-says : goal.returns-in-Ok-clause-says
returns-in-Ok-clause-says g c =
    let v = view_of g.T.Transport.wiring g.S.Service.served g.S.Service.calling g.B.MessageBody.gives g.L.Recorder.noted g.L.Recorder.is_listening c.args.self.now in
    let w = view_of g.T.Transport.wiring g.S.Service.served g.S.Service.calling g.B.MessageBody.gives g.L.Recorder.noted g.L.Recorder.is_listening (record c.args.self.now { traced = c.pull.new.self; queue = c.feed_data.new.self.queue.now }) in
    goes_by 2 (omega arith) v w (pulled (pieces.Bytes c.in-Ok-Bytes.bytes)) 1
    (fed_step v w (pieces.Bytes c.in-Ok-Bytes.bytes) c.requires.wants (rw c.in-Ok-Bytes.field-0-is at c.in-Ok-Bytes.ensures.stands) c.pull.ensures.settings c.pull.ensures.listening refl
    (c.in-Ok.ensures.ok ∙ ap (λ q. fed_data c.in-Ok-Bytes.bytes q) c.sender.ensures.now)) tt (omega arith)

pub returns-in-Err-feed_data-clause-says : goal.returns-in-Err-feed_data-clause-says
returns-in-Err-feed_data-clause-says g c =
    let v = view_of g.T.Transport.wiring g.S.Service.served g.S.Service.calling g.B.MessageBody.gives g.L.Recorder.noted g.L.Recorder.is_listening c.args.self.now in
    let w = view_of g.T.Transport.wiring g.S.Service.served g.S.Service.calling g.B.MessageBody.gives g.L.Recorder.noted g.L.Recorder.is_listening (record c.args.self.now { traced = c.pull.new.self; queue = c.feed_data.new.self.queue.now; ending = Some Broken }) in
    lacks 2 (omega arith) v w (failed_fed c.in-Ok-Bytes.bytes) refl
    (fed_fails v w c.in-Ok-Bytes.bytes c.requires.wants (rw c.in-Ok-Bytes.field-0-is at c.in-Ok-Bytes.ensures.stands) c.pull.ensures.settings c.pull.ensures.listening refl (c.in-Err-feed_data.ensures.err ∙ c.sender.ensures.now))
    (inr (inr (inr (inl (c.in-Ok-Bytes.bytes, ([], refl, tt))))))

pub returns-in-Ok-Trailers-clause-says : goal.returns-in-Ok-Trailers-clause-says
returns-in-Ok-Trailers-clause-says g c =
    let v = view_of g.T.Transport.wiring g.S.Service.served g.S.Service.calling g.B.MessageBody.gives g.L.Recorder.noted g.L.Recorder.is_listening c.args.self.now in
    let w = view_of g.T.Transport.wiring g.S.Service.served g.S.Service.calling g.B.MessageBody.gives g.L.Recorder.noted g.L.Recorder.is_listening (record c.args.self.now { traced = c.pull.new.self; queue = c.set_trailers.new.self.queue.now }) in
    goes_by 2 (omega arith) v w (pulled (pieces.Trailers c.in-Ok-Trailers.trailers)) 1
    (fed_step v w (pieces.Trailers c.in-Ok-Trailers.trailers) c.requires.wants (rw c.in-Ok-Trailers.field-0-is at c.in-Ok-Trailers.ensures.stands) c.pull.ensures.settings c.pull.ensures.listening refl (c.set_trailers.ensures.fed ∙ ap (λ q. fed_trailers c.in-Ok-Trailers.trailers q) c.sender-in-Ok-Trailers.ensures.now)) tt (omega arith)

pub returns-in-Ok-End-clause-says : goal.returns-in-Ok-End-clause-says
returns-in-Ok-End-clause-says g c =
    let v = view_of g.T.Transport.wiring g.S.Service.served g.S.Service.calling g.B.MessageBody.gives g.L.Recorder.noted g.L.Recorder.is_listening c.args.self.now in
    let w = view_of g.T.Transport.wiring g.S.Service.served g.S.Service.calling g.B.MessageBody.gives g.L.Recorder.noted g.L.Recorder.is_listening (record c.args.self.now { traced = c.pull.new.self; queue = c.feed_eof.new.self.queue.now }) in
    goes_by 2 (omega arith) v w (pulled pieces.End) 1
    (fed_step v w pieces.End c.requires.wants (rw c.in-Ok-End.field-0-is at c.in-Ok-End.ensures.stands) c.pull.ensures.settings c.pull.ensures.listening refl (c.feed_eof.ensures.fed ∙ ap (λ q. fed_end q) c.sender-in-Ok-End.ensures.now)) tt (omega arith)

pub returns-in-Ok-Broken-clause-says : goal.returns-in-Ok-Broken-clause-says
returns-in-Ok-Broken-clause-says g c =
    let v = view_of g.T.Transport.wiring g.S.Service.served g.S.Service.calling g.B.MessageBody.gives g.L.Recorder.noted g.L.Recorder.is_listening c.args.self.now in
    let w = view_of g.T.Transport.wiring g.S.Service.served g.S.Service.calling g.B.MessageBody.gives g.L.Recorder.noted g.L.Recorder.is_listening (record c.args.self.now { traced = c.pull.new.self; queue = c.set_error.new.self.queue.now }) in
    goes_by 2 (omega arith) v w (pulled (pieces.Broken c.in-Ok-Broken.fault)) 1
    (fed_step v w (pieces.Broken c.in-Ok-Broken.fault) c.requires.wants (rw c.in-Ok-Broken.field-0-is at c.in-Ok-Broken.ensures.stands) c.pull.ensures.settings c.pull.ensures.listening refl (c.set_error.ensures.fed ∙ ap (λ q. fed_error c.error_of.result q) c.sender-in-Ok-Broken.ensures.now ∙ ap (λ e. fed_error e c.args.self.now.queue) c.error_of.ensures)) tt (omega arith)

pub returns-in-Err-clause-says : goal.returns-in-Err-clause-says
returns-in-Err-clause-says g c =
    let v = view_of g.T.Transport.wiring g.S.Service.served g.S.Service.calling g.B.MessageBody.gives g.L.Recorder.noted g.L.Recorder.is_listening c.args.self.now in
    let w = view_of g.T.Transport.wiring g.S.Service.served g.S.Service.calling g.B.MessageBody.gives g.L.Recorder.noted g.L.Recorder.is_listening (record c.args.self.now { traced = c.pull.new.self; ending = Some Broken }) in
    lacks 2 (omega arith) v w (failed on.pull) refl (c.requires.wants, c.in-Err.ensures.err, refl) (inl (on.pull, tt, ([], refl, tt)))
