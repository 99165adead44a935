use Rattle.std.proofs.Common.{List, ℕ, subst}
use Rattle.model_h1.specs.Frame.{Message}
use Rattle.model_h1.specs.Event as on
use Rattle.h1_connection.specs.declared.event.Outcome.TheVariants as out
use Rattle.http_types.specs.ResponseHead.{ResponseParts}
use Rattle.h1_encoder.specs.Meaning.{answer_of, size_of}
use Rattle.h1_connection.specs.EventMeaning.{SaysOutcome}
use Rattle.h1_connection.specs.State.{GoesOn, Is}
use Rattle.h1_connection.proofs.ResultLemmas.{ok_map}
use Rattle.h1_connection.proofs.RunLemmas.{at_event, says_more}
use Rattle.h1_connection.proofs.connection.Connection.step.Goals as goal

pub returns-in_ok-read-in-Read-clause-stands : goal.returns-in_ok-read-in-Read-clause-stands
returns-in_ok-read-in-Read-clause-stands c =
    at_event c.args.self.now c.read.new.self _ _ (out.Took c.in_ok-read-in-Read.field-0) c.in-Read.is
    (subst (λ (l : List ℕ). GoesOn c.args.self.now (on.read l) (Is (on.took c.in_ok-read-in-Read.field-0)) c.read.new.self) c.as_slice.ensures c.in_ok-read-in-Read.ensures.stands)

pub returns-in-Eof-clause-stands : goal.returns-in-Eof-clause-stands
returns-in-Eof-clause-stands c = at_event c.args.self.now c.eof.new.self _ _ out.Done c.in-Eof.is c.eof.ensures.stands

pub returns-in_ok-ask-in-Next-clause-stands : goal.returns-in_ok-ask-in-Next-clause-stands
returns-in_ok-ask-in-Next-clause-stands c = at_event c.args.self.now c.ask.new.self _ _ c.outcome_of_next.result c.in-Next.is (says_more c.args.self.now c.ask.new.self _ _ _ c.outcome_of_next.ensures c.in_ok-ask-in-Next.ensures.stands)

pub returns-in-Pull-clause-stands : goal.returns-in-Pull-clause-stands
returns-in-Pull-clause-stands c =
    ok_map c.step_pull.result _ _ (λ outcome goes. at_event c.args.self.now c.step_pull.new.self _ _ outcome c.in-Pull.is goes) c.step_pull.ensures.stands

pub returns-in-DropBody-clause-stands : goal.returns-in-DropBody-clause-stands
returns-in-DropBody-clause-stands c = at_event c.args.self.now c.drop_body.new.self _ _ out.Done c.in-DropBody.is c.drop_body.ensures.stands

pub returns-in_ok-send_continue-in-Continue-clause-stands : goal.returns-in_ok-send_continue-in-Continue-clause-stands
returns-in_ok-send_continue-in-Continue-clause-stands c = at_event c.args.self.now c.send_continue.new.self _ _ out.Done c.in-Continue.is c.in_ok-send_continue-in-Continue.ensures.stands

pub returns-in_ok-answer-in-Answer-clause-stands : goal.returns-in_ok-answer-in-Answer-clause-stands
returns-in_ok-answer-in-Answer-clause-stands c =
    at_event c.args.self.now c.answer.new.self _ _ out.Done c.in-Answer.is
    (subst (λ (h : ResponseParts). GoesOn c.args.self.now (on.answer (answer_of h) (size_of c.in-Answer.size)) (Is on.done) c.answer.new.self) c.get.ensures c.in_ok-answer-in-Answer.ensures.stands)

pub returns-in_ok-chunk-in-Chunk-clause-stands : goal.returns-in_ok-chunk-in-Chunk-clause-stands
returns-in_ok-chunk-in-Chunk-clause-stands c =
    at_event c.args.self.now c.chunk.new.self _ _ out.Done c.in-Chunk.is
    (subst (λ (l : List ℕ). GoesOn c.args.self.now (on.chunk l) (Is on.done) c.chunk.new.self) c.as_slice-in-Chunk.ensures c.in_ok-chunk-in-Chunk.ensures.stands)

pub returns-in_ok-end_answer-in-BodyEnd-clause-stands : goal.returns-in_ok-end_answer-in-BodyEnd-clause-stands
returns-in_ok-end_answer-in-BodyEnd-clause-stands c = at_event c.args.self.now c.end_answer.new.self _ _ out.Done c.in-BodyEnd.is c.in_ok-end_answer-in-BodyEnd.ensures.stands

pub returns-in-BodyError-clause-stands : goal.returns-in-BodyError-clause-stands
returns-in-BodyError-clause-stands c = at_event c.args.self.now c.fail_answer.new.self _ _ out.Done c.in-BodyError.is c.fail_answer.ensures.stands

pub returns-in_ok-write-in-Write-clause-stands : goal.returns-in_ok-write-in-Write-clause-stands
returns-in_ok-write-in-Write-clause-stands c = at_event c.args.self.now c.write.new.self _ _ (out.Gave c.in_ok-write-in-Write.field-0) c.in-Write.is c.in_ok-write-in-Write.ensures.stands

pub returns-in_ok-tick-in-Tick-clause-stands : goal.returns-in_ok-tick-in-Tick-clause-stands
returns-in_ok-tick-in-Tick-clause-stands c = at_event c.args.self.now c.tick.new.self _ _ c.outcome_of_tick.result c.in-Tick.is (says_more c.args.self.now c.tick.new.self _ _ _ c.outcome_of_tick.ensures c.in_ok-tick-in-Tick.ensures.stands)

pub returns-in-Drain-clause-stands : goal.returns-in-Drain-clause-stands
returns-in-Drain-clause-stands c = at_event c.args.self.now c.drain.new.self _ _ out.Done c.in-Drain.is c.drain.ensures.stands

pub returns-in_ok-accept-in-Accept-clause-stands : goal.returns-in_ok-accept-in-Accept-clause-stands
returns-in_ok-accept-in-Accept-clause-stands c = at_event c.args.self.now c.accept.new.self _ _ c.outcome_of_accept.result c.in-Accept.is (says_more c.args.self.now c.accept.new.self _ _ _ c.outcome_of_accept.ensures c.in_ok-accept-in-Accept.ensures.stands)

pub returns-in_ok-send-in-Send-clause-stands : goal.returns-in_ok-send-in-Send-clause-stands
returns-in_ok-send-in-Send-clause-stands c =
    at_event c.args.self.now c.send.new.self _ _ c.outcome_of_send.result c.in-Send.is
    (subst (λ (m : Message). GoesOn c.args.self.now (on.send m) (SaysOutcome c.outcome_of_send.result) c.send.new.self) c.get-in-Send.ensures
    (says_more c.args.self.now c.send.new.self _ _ _ c.outcome_of_send.ensures c.in_ok-send-in-Send.ensures.stands))
