use Rattle.std.proofs.Common.{◌≡◌, ℕ, min, List, length, take, sym, ap, subst, arith, le_refl}
use Rattle.std.proofs.lemmas.List.{take_all}
use Rattle.model_h1.specs.HeadPiece.{AreBlankLines, IsHeadPiece, HasNoHeadPiece}
use Rattle.h1_decoder.proofs.HeadPieceLemmas.{first_end_is_piece, no_end_no_piece}
use Rattle.h1_decoder.proofs.scan.HeadScanner.scan_on.Goals as goal
use Rattle.h1_decoder.proofs.scan.HeadScanner.scan_on.Goals.{In-Some, After-self-in-None-1}
use Rattle.h1_decoder.specs.HeadPosition.{HeadPosition, HasScanned}

-- behind the empty lines that a search has passed
passed : (bytes : List ℕ) (position : HeadPosition) (at : ℕ) → HasScanned position bytes → at ≡ min position.start (length bytes)
    → AreBlankLines (take at bytes)
passed bytes position at has is =
    let same : position.start ≡ at = omega (arith, is, has.ordered, has.in_range) in
    subst (λ (k : ℕ). AreBlankLines (take k bytes)) same has.blank

-- the end that was found is that of the head
found : (c : In-Some) → HasScanned c.args.self.now c.args.bytes.now → IsHeadPiece c.args.bytes.now c.skip_blank_lines-start.result c.in-Some.end
found c has =
    let position = c.args.self.now in
    let bytes = c.args.bytes.now in
    let same : position.scanned ≡ c.self.inside.scanned = sym (ap (λ (p : HeadPosition). p.scanned) c.self.view_is) in
    let begin : position.start ≡ c.self.inside.start = sym (ap (λ (p : HeadPosition). p.start) c.self.view_is) in
    let start = c.skip_blank_lines-start in
    let blank = start.ensures.blank (passed bytes position c.min.result has (omega (arith, begin, c.min.ensures))) in
    first_end_is_piece bytes start.result position.scanned has.in_range has.no_head blank start.ensures.begins
    c.max-from.result c.in-Some.end (omega (arith, c.max-from.ensures)) (omega (arith, c.max-from.ensures, c.saturating_sub.ensures, same)) c.in-Some.ensures.found

-- no head stands there where no end was found
none : (c : After-self-in-None-1) → HasScanned c.args.self.now c.args.bytes.now → HasNoHeadPiece c.args.bytes.now
none c has =
    let position = c.args.self.now in
    let bytes = c.args.bytes.now in
    let same : position.scanned ≡ c.self.inside.scanned = sym (ap (λ (p : HeadPosition). p.scanned) c.self.view_is) in
    let begin : position.start ≡ c.self.inside.start = sym (ap (λ (p : HeadPosition). p.start) c.self.view_is) in
    let start = c.skip_blank_lines-start in
    let blank = start.ensures.blank (passed bytes position c.min.result has (omega (arith, begin, c.min.ensures))) in
    no_end_no_piece bytes start.result position.scanned has.in_range has.no_head blank start.ensures.begins
    c.max-from.result start.ensures.in_range (omega (arith, c.max-from.ensures, c.saturating_sub.ensures, same)) c.in-None.ensures.none

pub returns-in-Some-clause-answer : goal.returns-in-Some-clause-answer
returns-in-Some-clause-answer c has = found c has

pub returns-in-None-clause-answer : goal.returns-in-None-clause-answer
returns-in-None-clause-answer c has = none c has

pub returns-in-None-clause-goes_on : goal.returns-in-None-clause-goes_on
returns-in-None-clause-goes_on c has =
    let bytes = c.args.bytes.now in
    let position = c.args.self.now in
    let begin : position.start ≡ c.self.inside.start = sym (ap (λ (p : HeadPosition). p.start) c.self.view_is) in
    record {
      ordered = c.skip_blank_lines-start.ensures.in_range;
      in_range = le_refl (length bytes);
      blank = c.skip_blank_lines-start.ensures.blank (passed bytes position c.min.result has (omega (arith, begin, c.min.ensures)));
      no_head = subst HasNoHeadPiece (sym (take_all (length bytes) bytes (le_refl (length bytes)))) (none c has);
    }
