use Rattle.std.proofs.Common.{[], None, false, sym, subst}
use Rattle.std.specs.Prelude.{OnOk}
use Rattle.http_types.specs.ResponseHead.{ResponseParts}
use Rattle.h1_encoder.specs.Meaning.{answer_of}
use Rattle.model_h1.specs.Answer.{AnswerHead, size_none}
use Rattle.model_h1.specs.Event as on
use Rattle.h1_connection.specs.State.{IsAllowed}
use Rattle.serve_blocking.specs.Acts.{Answers}
use Rattle.serve_blocking.specs.Served.{Line}
use Rattle.serve_blocking.proofs.connection.end_request.Goals as goal

pub returns-then-can_answer-clause-answers : goal.returns-then-can_answer-clause-answers
returns-then-can_answer-clause-answers g c = λ may.
    subst (λ (h : ResponseParts). OnOk c.empty.result (Answers (answer_of h) [] c.args.body.now c.empty.new.body)) c.new-head.ensures c.empty.ensures.answers

pub returns-clause-answers : goal.returns-clause-answers
returns-clause-answers g c = λ may.
    let head : AnswerHead = record {
      status = 0;
      reason = None;
      closes = false;
      keeps_alive = false;
      upgrades = false;
      no_chunking = false;
      in_camel_case = false;
      headers = [];
    } in
    let allowed = subst (λ (l : Line). IsAllowed l.state (on.answer head size_none)) (sym c.body.view_is) (may head size_none) in
    absurd (cc (c.if-can_answer.false, c.can_answer.ensures head size_none, allowed))
