use Rattle.std.proofs.Common.{◌≡◌, ◌⊎◌, true, false, Some, [], refl, sym, ap, ◌∙◌, inl, arith}
use Rattle.http_framing.specs.declared.body.size.BodySize.TheVariants.{None as NoBody, Sized}
use Rattle.h1_encoder.specs.Meaning.{answer_of, size_of}
use Rattle.model_h1.specs.Event as on
use Rattle.h1_dispatcher.specs.declared.dispatcher.Ending.TheVariants.{Broken}
use Rattle.h1_dispatcher.specs.declared.dispatcher.Work.TheVariants.{Free, Sending}
use Rattle.h1_dispatcher.specs.View.{view_of, stage_of, sending, told_response}
use Rattle.h1_dispatcher.specs.Steps.{replied, failed}
use Rattle.h1_dispatcher.proofs.Runs.{goes_by, lacks}
use Rattle.h1_dispatcher.proofs.Moves.{any_allowed, same_response, handed_on, replied_none, replied_some}
use Rattle.h1_dispatcher.proofs.dispatcher.answer.Dispatcher+T+S+S+Call+L+B.put_reply.Goals as goal

pub answer-requires : goal.answer-requires
answer-requires g c = record { can_answer = any_allowed _ _ _ _ c.requires.allowed }

pub returns-then-is_eof-clause-says : goal.returns-then-is_eof-clause-says
returns-then-is_eof-clause-says g c =
    let v = view_of g.T.Transport.wiring g.S.Service.served g.S.Service.calling g.B.MessageBody.gives g.L.Recorder.noted g.L.Recorder.is_listening c.args.self.now in
    let w = view_of g.T.Transport.wiring g.S.Service.served g.S.Service.calling g.B.MessageBody.gives g.L.Recorder.noted g.L.Recorder.is_listening (record c.args.self.now { traced = c.answer.new.self; queue = c.create.result; work = Free }) in
    let answer = told_response g.B.MessageBody.gives c.in-Replying.response in
    let was = ap (λ x. stage_of g.S.Service.calling g.B.MessageBody.gives x) c.in-Replying.is in
    let stated = rw c.body.ensures at c.size-size.ensures in
    let empty : (c.size-size.result ≡ NoBody) ⊎ (c.size-size.result ≡ Sized 0) = c.if-is_eof.ensures.0 refl in
    goes_by 1 (omega arith) v w (replied answer) 1
    (handed_on v w answer c.requires.running c.requires.dropped was (rw (c.head.ensures, stated) at c.in-Ok.ensures.stands) c.answer.ensures.settings c.answer.ensures.listening refl c.create.ensures
    (sym (replied_none answer.body answer.body.size (rw stated at empty)))) tt (omega arith)

pub returns-in-Replying-replace-clause-says : goal.returns-in-Replying-replace-clause-says
returns-in-Replying-replace-clause-says g c =
    let v = view_of g.T.Transport.wiring g.S.Service.served g.S.Service.calling g.B.MessageBody.gives g.L.Recorder.noted g.L.Recorder.is_listening c.args.self.now in
    let w = view_of g.T.Transport.wiring g.S.Service.served g.S.Service.calling g.B.MessageBody.gives g.L.Recorder.noted g.L.Recorder.is_listening (record c.args.self.now { traced = c.answer.new.self; queue = c.create.result; work = Sending c.into_body.result }) in
    let answer = told_response g.B.MessageBody.gives c.in-Replying.response in
    let was = ap (λ x. stage_of g.S.Service.calling g.B.MessageBody.gives x) c.in-Replying.is in
    let stated = rw c.body.ensures at c.size-size.ensures in
    let same = same_response _ c.in-Replying.response c.in-Replying-replace.response c.in-Replying.is (sym c.replace.ensures.value ∙ c.in-Replying-replace.is) in
    let some : ¬ ((c.size-size.result ≡ NoBody) ⊎ (c.size-size.result ≡ Sized 0)) = λ none. let never : false ≡ true = c.if-is_eof.ensures.1 none in cc never in
    goes_by 1 (omega arith) v w (replied answer) 1
    (handed_on v w answer c.requires.running c.requires.dropped was (rw (c.head.ensures, stated) at c.in-Ok.ensures.stands) c.answer.ensures.settings c.answer.ensures.listening refl c.create.ensures
    (ap (λ x. sending (g.B.MessageBody.gives x)) (c.into_body.ensures ∙ ap (λ x. x.body) same) ∙ sym (replied_some answer.body answer.body.size (rw stated at some)))) tt (omega arith)

pub returns-in-Err-clause-says : goal.returns-in-Err-clause-says
returns-in-Err-clause-says g c =
    let v = view_of g.T.Transport.wiring g.S.Service.served g.S.Service.calling g.B.MessageBody.gives g.L.Recorder.noted g.L.Recorder.is_listening c.args.self.now in
    let w = view_of g.T.Transport.wiring g.S.Service.served g.S.Service.calling g.B.MessageBody.gives g.L.Recorder.noted g.L.Recorder.is_listening (record c.args.self.now { traced = c.answer.new.self; ending = Some Broken }) in
    let answer = told_response g.B.MessageBody.gives c.in-Replying.response in
    let was = ap (λ x. stage_of g.S.Service.calling g.B.MessageBody.gives x) c.in-Replying.is in
    let stated = rw c.body.ensures at c.size-size.ensures in
    let event = on.answer (answer_of answer.head) (size_of answer.body.size) in
    lacks 1 (omega arith) v w (failed event) refl
    (((c.requires.running, c.requires.dropped), c.requires.allowed, (answer, was, refl, refl)), rw (c.head.ensures, stated) at c.in-Err.ensures.err, refl)
    (inl (event, tt, ([], refl, tt)))

pub returns-in-Replying-replace-clause-handed : goal.returns-in-Replying-replace-clause-handed
returns-in-Replying-replace-clause-handed g c = refl

pub returns-then-is_eof-clause-handed : goal.returns-then-is_eof-clause-handed
returns-then-is_eof-clause-handed g c = refl

pub returns-in-Err-clause-handed : goal.returns-in-Err-clause-handed
returns-in-Err-clause-handed g c = refl
