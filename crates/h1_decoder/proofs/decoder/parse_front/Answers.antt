use Rattle.std.proofs.Common.{arith}
use Rattle.h1_decoder.proofs.FrontLemmas.{front_is_piece, front_begins, front_whole}
use Rattle.h1_decoder.proofs.decoder.parse_front.Goals as goal

pub returns-in-Ok-Complete-clause-piece : goal.returns-in-Ok-Complete-clause-piece
returns-in-Ok-Complete-clause-piece c =
    front_is_piece c.args.bytes.now c.parse_request.new.headers c.in-Ok-Complete.spans
    (rw c.in-Ok-Complete.field-0-is at c.in-Ok-Complete.ensures.within) (rw c.in-Ok-Complete.field-0-is at c.in-Ok-Complete.ensures.complete) c.in-None.ensures.none

pub returns-in-Ok-Complete-clause-found : goal.returns-in-Ok-Complete-clause-found
returns-in-Ok-Complete-clause-found c =
    front_whole c.args.bytes.now c.parse_request.new.headers c.in-Ok-Complete.spans
    (rw c.in-Ok-Complete.field-0-is at c.in-Ok-Complete.ensures.within) (rw c.in-Ok-Complete.field-0-is at c.in-Ok-Complete.ensures.complete) c.in-None.ensures.none (omega (arith, c.requires, c.parse_request.auto.headers))

pub returns-in-Ok-Complete-clause-there : goal.returns-in-Ok-Complete-clause-there
returns-in-Ok-Complete-clause-there c =
    front_begins c.args.bytes.now c.parse_request.new.headers c.in-Ok-Complete.spans
    (rw c.in-Ok-Complete.field-0-is at c.in-Ok-Complete.ensures.within) (rw c.in-Ok-Complete.field-0-is at c.in-Ok-Complete.ensures.complete) c.in-None.ensures.none (omega (arith, c.requires, c.parse_request.auto.headers))
