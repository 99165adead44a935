use Rattle.std.proofs.Common.{Some, None, [], refl, sym, ap, ◌∙◌, inr, arith}
use Rattle.futures.specs.declared.task.Poll.TheVariants.{Ready, Pending}
use Rattle.h1_dispatcher.specs.declared.dispatcher.Ending.TheVariants.{Broken}
use Rattle.h1_dispatcher.specs.declared.dispatcher.Work.TheVariants.{Sending}
use Rattle.h1_dispatcher.specs.View.{view_of, stage_of}
use Rattle.h1_dispatcher.specs.Steps.{sent, failed_sent}
use Rattle.h1_dispatcher.proofs.Runs.{goes_by, lacks}
use Rattle.h1_dispatcher.proofs.Turns.{pending_then, idle_body, waits_body}
use Rattle.h1_dispatcher.proofs.Moves.{sent_step, sent_fails, may_end}
use Rattle.h1_dispatcher.proofs.dispatcher.send.Dispatcher+T+S+S+Call+L+B.poll_body.Goals as goal

pub end_answer-requires : goal.end_answer-requires
end_answer-requires g c = record { can_end_answer = may_end _ _ c.requires.allowed }

pub returns-in-Pending-clause-says : goal.returns-in-Pending-clause-says
returns-in-Pending-clause-says g c =
    let v = view_of g.T.Transport.wiring g.S.Service.served g.S.Service.calling g.B.MessageBody.gives g.L.Recorder.noted g.L.Recorder.is_listening c.args.self.now in
    let u = view_of g.T.Transport.wiring g.S.Service.served g.S.Service.calling g.B.MessageBody.gives g.L.Recorder.noted g.L.Recorder.is_listening (record c.args.self.now { work = Sending c.poll_next.new.self }) in
    let w = view_of g.T.Transport.wiring g.S.Service.served g.S.Service.calling g.B.MessageBody.gives g.L.Recorder.noted g.L.Recorder.is_listening c.read_on.new.self in
    let was = ap (λ x. stage_of g.S.Service.calling g.B.MessageBody.gives x) (sym c.replace.ensures.value ∙ c.in-Sending.is) in
    pending_then 4 (omega arith) v u w (sent Pending) c.read_on.result
    (sent_step v u (g.B.MessageBody.gives c.in-Sending.body) (g.B.MessageBody.gives c.poll_next.new.self) Pending c.requires.running c.requires.allowed was c.in-Pending.ensures.says refl refl) tt (idle_body u refl)
    (waits_body v c.requires.sends c.requires.allowed) c.read_on.ensures.says

pub returns-in-Ok-clause-says : goal.returns-in-Ok-clause-says
returns-in-Ok-clause-says g c =
    let v = view_of g.T.Transport.wiring g.S.Service.served g.S.Service.calling g.B.MessageBody.gives g.L.Recorder.noted g.L.Recorder.is_listening c.args.self.now in
    let w = view_of g.T.Transport.wiring g.S.Service.served g.S.Service.calling g.B.MessageBody.gives g.L.Recorder.noted g.L.Recorder.is_listening (record c.args.self.now { traced = c.end_answer.new.self; work = c.replace.new.dest }) in
    let was = ap (λ x. stage_of g.S.Service.calling g.B.MessageBody.gives x) (sym c.replace.ensures.value ∙ c.in-Sending.is) in
    goes_by 4 (omega arith) v w (sent (Ready None)) 1
    (sent_step v w (g.B.MessageBody.gives c.in-Sending.body) (g.B.MessageBody.gives c.poll_next.new.self) (Ready None) c.requires.running c.requires.allowed was
    (rw c.in-Ready-None.field-0-is at c.in-Ready-None.ensures.says) (record { steps = c.in-Ok.ensures.stands; settings = c.end_answer.ensures.settings; listens = c.end_answer.ensures.listening })
    (ap (λ x. record v { traced = w.traced; stage = stage_of g.S.Service.calling g.B.MessageBody.gives x }) c.replace.ensures.after)) tt (omega arith)

pub returns-in-Err-clause-says : goal.returns-in-Err-clause-says
returns-in-Err-clause-says g c =
    let v = view_of g.T.Transport.wiring g.S.Service.served g.S.Service.calling g.B.MessageBody.gives g.L.Recorder.noted g.L.Recorder.is_listening c.args.self.now in
    let w = view_of g.T.Transport.wiring g.S.Service.served g.S.Service.calling g.B.MessageBody.gives g.L.Recorder.noted g.L.Recorder.is_listening (record c.args.self.now { traced = c.end_answer.new.self; work = Sending c.poll_next.new.self; ending = Some Broken }) in
    let was = ap (λ x. stage_of g.S.Service.calling g.B.MessageBody.gives x) (sym c.replace.ensures.value ∙ c.in-Sending.is) in
    lacks 4 (omega arith) v w (failed_sent (Ready None)) refl
    (sent_fails v w (g.B.MessageBody.gives c.in-Sending.body) (g.B.MessageBody.gives c.poll_next.new.self) (Ready None) c.requires.running c.requires.allowed was
    (rw c.in-Ready-None.field-0-is at c.in-Ready-None.ensures.says) c.in-Err.ensures.err refl)
    (inr (inr (inr (inr (Ready None, ([], refl, tt))))))

pub returns-in-Ok-put_piece-clause-says : goal.returns-in-Ok-put_piece-clause-says
returns-in-Ok-put_piece-clause-says g c =
    let v = view_of g.T.Transport.wiring g.S.Service.served g.S.Service.calling g.B.MessageBody.gives g.L.Recorder.noted g.L.Recorder.is_listening c.args.self.now in
    let w = view_of g.T.Transport.wiring g.S.Service.served g.S.Service.calling g.B.MessageBody.gives g.L.Recorder.noted g.L.Recorder.is_listening c.put_piece.new.self in
    let was = ap (λ x. stage_of g.S.Service.calling g.B.MessageBody.gives x) (sym c.replace.ensures.value ∙ c.in-Sending.is) in
    let piece = Ready (Some c.in-Ready-Some.piece) in
    goes_by 4 (omega arith) v w (sent piece) 1
    (sent_step v w (g.B.MessageBody.gives c.in-Sending.body) (g.B.MessageBody.gives c.poll_next.new.self) piece c.requires.running c.requires.allowed was
    (rw c.in-Ready-Some.field-0-is at c.in-Ready-Some.ensures.says) c.in-Ok-put_piece.ensures.ok
    (ap (λ d. view_of g.T.Transport.wiring g.S.Service.served g.S.Service.calling g.B.MessageBody.gives g.L.Recorder.noted g.L.Recorder.is_listening d) c.put_piece.ensures.stays)) tt (omega arith)

pub returns-in-Err-put_piece-clause-says : goal.returns-in-Err-put_piece-clause-says
returns-in-Err-put_piece-clause-says g c =
    let v = view_of g.T.Transport.wiring g.S.Service.served g.S.Service.calling g.B.MessageBody.gives g.L.Recorder.noted g.L.Recorder.is_listening c.args.self.now in
    let w = view_of g.T.Transport.wiring g.S.Service.served g.S.Service.calling g.B.MessageBody.gives g.L.Recorder.noted g.L.Recorder.is_listening (record c.put_piece.new.self { ending = Some Broken }) in
    let was = ap (λ x. stage_of g.S.Service.calling g.B.MessageBody.gives x) (sym c.replace.ensures.value ∙ c.in-Sending.is) in
    let piece = Ready (Some c.in-Ready-Some.piece) in
    lacks 4 (omega arith) v w (failed_sent piece) refl
    (sent_fails v w (g.B.MessageBody.gives c.in-Sending.body) (g.B.MessageBody.gives c.poll_next.new.self) piece c.requires.running c.requires.allowed was
    (rw c.in-Ready-Some.field-0-is at c.in-Ready-Some.ensures.says) c.in-Err-put_piece.ensures.err
    (ap (λ d. view_of g.T.Transport.wiring g.S.Service.served g.S.Service.calling g.B.MessageBody.gives g.L.Recorder.noted g.L.Recorder.is_listening (record d { ending = Some Broken })) c.put_piece.ensures.stays))
    (inr (inr (inr (inr (piece, ([], refl, tt))))))
