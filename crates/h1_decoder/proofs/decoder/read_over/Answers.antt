use Rattle.std.proofs.Common.{subst}
use Rattle.h1_decoder.proofs.ReadingLemmas.{values_whole, says_over, causes_whole, faults, refuses_text, reads_fault}
use Rattle.h1_decoder.specs.WholeHead.{RefusesText}
use Rattle.h1_decoder.proofs.decoder.read_over.Goals as goal

pub read_parts_over-requires-clause-values : goal.read_parts_over-requires-clause-values
read_parts_over-requires-clause-values c =
    values_whole c.args.piece.now c.as_slice.result.now c.parse_whole.new.fields c.in-Ok.spans c.as_slice.ensures c.in-Ok.ensures.found

pub returns-in-Ok-clause-head : goal.returns-in-Ok-clause-head
returns-in-Ok-clause-head c =
    says_over c.args.piece.now c.as_slice.result.now c.parse_whole.new.fields c.in-Ok.spans c.read_parts_over.new.item c.read_parts_over.result
    c.as_slice.ensures c.in-Ok.ensures.found c.read_parts_over.ensures.parts c.read_parts_over.ensures.says

pub returns-in-Ok-clause-cause : goal.returns-in-Ok-clause-cause
returns-in-Ok-clause-cause c =
    causes_whole c.args.piece.now c.as_slice.result.now c.parse_whole.new.fields c.in-Ok.spans c.read_parts_over.result
    c.as_slice.ensures c.in-Ok.ensures.found c.read_parts_over.ensures.refused

pub returns-in-Ok-clause-fault : goal.returns-in-Ok-clause-fault
returns-in-Ok-clause-fault c =
    faults c.args.piece.now c.read_parts_over.result
    (causes_whole c.args.piece.now c.as_slice.result.now c.parse_whole.new.fields c.in-Ok.spans c.read_parts_over.result
    c.as_slice.ensures c.in-Ok.ensures.found c.read_parts_over.ensures.refused)

pub returns-in-Err-clause-cause : goal.returns-in-Err-clause-cause
returns-in-Err-clause-cause c =
    λ ne. refuses_text c.args.piece.now c.in-Err.error (subst (RefusesText c.in-Err.error) c.as_slice.ensures c.in-Err.ensures.refused)

pub returns-in-Err-clause-fault : goal.returns-in-Err-clause-fault
returns-in-Err-clause-fault c =
    λ ne. reads_fault c.args.piece.now c.in-Err.error
    (refuses_text c.args.piece.now c.in-Err.error (subst (RefusesText c.in-Err.error) c.as_slice.ensures c.in-Err.ensures.refused))
