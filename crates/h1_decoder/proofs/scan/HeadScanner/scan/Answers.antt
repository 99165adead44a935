use Rattle.std.proofs.Common.{sym, ap, ◌∙◌}
use Rattle.model_h1.specs.HeadPiece.{HasNoHeadPiece}
use Rattle.h1_decoder.specs.declared.scan.HeadScan.TheVariants.{Open}
use Rattle.h1_decoder.specs.HeadPosition.{HeadPosition}
use Rattle.h1_decoder.proofs.HeadPieceLemmas.{AnswersScan-found, no_head_in_all}
use Rattle.h1_decoder.proofs.scan.HeadScanner.scan.Goals as goal
use Rattle.h1_decoder.proofs.scan.HeadScanner.scan.Goals.{Then-self-bytes}

-- nothing came behind the bytes that were searched
none : (c : Then-self-bytes) → HasNoHeadPiece c.args.bytes.now
none c = no_head_in_all c.args.self.now c.args.bytes.now (sym (ap (λ (p : HeadPosition). p.scanned) c.self.view_is) ∙ c.if-self-bytes.true) c.requires

pub returns-then-self-bytes-clause-answer : goal.returns-then-self-bytes-clause-answer
returns-then-self-bytes-clause-answer c = none c

pub returns-then-self-bytes-clause-found : goal.returns-then-self-bytes-clause-found
returns-then-self-bytes-clause-found c = AnswersScan-found c.args.bytes.now Open (none c)

pub returns-clause-found : goal.returns-clause-found
returns-clause-found c = AnswersScan-found c.args.bytes.now c.scan_on.result (c.scan_on.ensures.answer c.requires)
