use Rattle.std.proofs.Common.{ℕ, List, true, refl, inr, ap, ◌∙◌, subst}
use Rattle.model_client.specs.AnswerReading.{HasNoText}
use Rattle.model_client.specs.LaxText.{unpadded}
use Rattle.h1_decoder.specs.AnswerRefusal.{IsWholeAnswerAt}
use Rattle.h1_decoder.proofs.AnswerReadingLemmas.{IsTaken, answer_values, answers_whole, answer_causes, answer_faults, refuses_both, reads_refused, copy_is_no_text}
use Rattle.h1_decoder.proofs.response.read_laxly.Goals as goal

pub read_answer-requires-clause-values : goal.read_answer-requires-clause-values
read_answer-requires-clause-values c =
    answer_values c.in_ok-text.text c.as_slice-2.result.now c.parse_text.new.fields c.in-Ok.spans c.as_slice-2.ensures c.in-Ok.ensures.found

pub returns-in-Ok-clause-head : goal.returns-in-Ok-clause-head
returns-in-Ok-clause-head c =
    let taken : IsTaken c.args.piece.now c.in_ok-text.text true =
    (c.requires.few, inr (refl, c.requires.none, c.in_ok-text.ensures.copy ∙ ap unpadded c.as_slice.ensures)) in
    let whole = subst (λ (t : List ℕ). IsWholeAnswerAt t c.parse_text.new.fields c.in-Ok.spans) c.as_slice-2.ensures c.in-Ok.ensures.found in
    answers_whole c.args.piece.now c.in_ok-text.text c.parse_text.new.fields c.in-Ok.spans true taken whole c.read_answer.result
    c.read_answer.ensures.parts c.read_answer.ensures.says

pub returns-in-Ok-clause-fault : goal.returns-in-Ok-clause-fault
returns-in-Ok-clause-fault c =
    let taken : IsTaken c.args.piece.now c.in_ok-text.text true =
    (c.requires.few, inr (refl, c.requires.none, c.in_ok-text.ensures.copy ∙ ap unpadded c.as_slice.ensures)) in
    let whole = subst (λ (t : List ℕ). IsWholeAnswerAt t c.parse_text.new.fields c.in-Ok.spans) c.as_slice-2.ensures c.in-Ok.ensures.found in
    answer_faults c.args.piece.now c.read_answer.result
    (answer_causes c.args.piece.now c.in_ok-text.text c.parse_text.new.fields c.in-Ok.spans true taken whole c.read_answer.result
    c.read_answer.ensures.refused)

pub returns-in-Ok-clause-cause : goal.returns-in-Ok-clause-cause
returns-in-Ok-clause-cause c =
    let taken : IsTaken c.args.piece.now c.in_ok-text.text true =
    (c.requires.few, inr (refl, c.requires.none, c.in_ok-text.ensures.copy ∙ ap unpadded c.as_slice.ensures)) in
    let whole = subst (λ (t : List ℕ). IsWholeAnswerAt t c.parse_text.new.fields c.in-Ok.spans) c.as_slice-2.ensures c.in-Ok.ensures.found in
    answer_causes c.args.piece.now c.in_ok-text.text c.parse_text.new.fields c.in-Ok.spans true taken whole c.read_answer.result
    c.read_answer.ensures.refused

pub returns-clause-fault : goal.returns-clause-fault
returns-clause-fault c =
    let none : HasNoText (unpadded c.args.piece.now) =
    copy_is_no_text c.args.piece.now c.as_slice-2.result.now (c.as_slice-2.ensures ∙ c.in_ok-text.ensures.copy ∙ ap unpadded c.as_slice.ensures) c.requires.few
    c.in-Err.ensures.none in
    λ ne. reads_refused c.args.piece.now c.args.error
    (refuses_both c.args.piece.now c.args.error c.requires.grammar (c.requires.few, c.requires.none, none))

pub returns-clause-cause : goal.returns-clause-cause
returns-clause-cause c =
    let none : HasNoText (unpadded c.args.piece.now) =
    copy_is_no_text c.args.piece.now c.as_slice-2.result.now (c.as_slice-2.ensures ∙ c.in_ok-text.ensures.copy ∙ ap unpadded c.as_slice.ensures) c.requires.few
    c.in-Err.ensures.none in
    λ ne. refuses_both c.args.piece.now c.args.error c.requires.grammar (c.requires.few, c.requires.none, none)
