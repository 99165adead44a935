use Rattle.std.proofs.Common.{◌≤◌, ℕ, List, false, refl, inl, ap, subst, arith}
use Rattle.model_h1.specs.HeadPiece.{header_lines}
use Rattle.model_h1.specs.Limits.{MAX_HEADER_LINES}
use Rattle.h1_decoder.specs.AnswerRefusal.{IsWholeAnswerAt}
use Rattle.h1_decoder.proofs.AnswerReadingLemmas.{IsTaken, answer_values, answers_whole, answer_causes, answer_faults, piece_is_no_text}
use Rattle.h1_decoder.proofs.response.response_head.Goals as goal

pub read_answer-requires-clause-values : goal.read_answer-requires-clause-values
read_answer-requires-clause-values c =
    answer_values c.args.piece c.as_slice-2.result.now c.parse_text.new.fields c.in-Ok.spans c.as_slice-2.ensures c.in-Ok.ensures.found

pub returns-in-Ok-clause-head : goal.returns-in-Ok-clause-head
returns-in-Ok-clause-head c =
    let few : header_lines c.args.piece ≤ MAX_HEADER_LINES =
    omega (arith, c.count_header_lines.ensures, c.if-count_header_lines-gt-MAX_HEADERS.false, ap header_lines c.as_slice.ensures) in
    let taken : IsTaken c.args.piece c.args.piece false = (few, inl (refl, refl)) in
    let whole = subst (λ (t : List ℕ). IsWholeAnswerAt t c.parse_text.new.fields c.in-Ok.spans) c.as_slice-2.ensures c.in-Ok.ensures.found in
    answers_whole c.args.piece c.args.piece c.parse_text.new.fields c.in-Ok.spans false taken whole c.read_answer.result
    c.read_answer.ensures.parts c.read_answer.ensures.says

pub returns-in-Ok-clause-fault : goal.returns-in-Ok-clause-fault
returns-in-Ok-clause-fault c =
    let few : header_lines c.args.piece ≤ MAX_HEADER_LINES =
    omega (arith, c.count_header_lines.ensures, c.if-count_header_lines-gt-MAX_HEADERS.false, ap header_lines c.as_slice.ensures) in
    let taken : IsTaken c.args.piece c.args.piece false = (few, inl (refl, refl)) in
    let whole = subst (λ (t : List ℕ). IsWholeAnswerAt t c.parse_text.new.fields c.in-Ok.spans) c.as_slice-2.ensures c.in-Ok.ensures.found in
    answer_faults c.args.piece c.read_answer.result
    (answer_causes c.args.piece c.args.piece c.parse_text.new.fields c.in-Ok.spans false taken whole c.read_answer.result c.read_answer.ensures.refused)

pub returns-in-Ok-clause-cause : goal.returns-in-Ok-clause-cause
returns-in-Ok-clause-cause c =
    let few : header_lines c.args.piece ≤ MAX_HEADER_LINES =
    omega (arith, c.count_header_lines.ensures, c.if-count_header_lines-gt-MAX_HEADERS.false, ap header_lines c.as_slice.ensures) in
    let taken : IsTaken c.args.piece c.args.piece false = (few, inl (refl, refl)) in
    let whole = subst (λ (t : List ℕ). IsWholeAnswerAt t c.parse_text.new.fields c.in-Ok.spans) c.as_slice-2.ensures c.in-Ok.ensures.found in
    answer_causes c.args.piece c.args.piece c.parse_text.new.fields c.in-Ok.spans false taken whole c.read_answer.result c.read_answer.ensures.refused

pub read_laxly-requires-clause-none : goal.read_laxly-requires-clause-none
read_laxly-requires-clause-none c =
    let few : header_lines c.args.piece ≤ MAX_HEADER_LINES =
    omega (arith, c.count_header_lines.ensures, c.if-count_header_lines-gt-MAX_HEADERS.false, ap header_lines c.as_slice.ensures) in
    piece_is_no_text c.args.piece c.as_slice-2.result.now c.as_slice-2.ensures few c.in-Err.ensures.none
