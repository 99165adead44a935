-- What was found says what is taken.
use Rattle.std.proofs.Common.{sym, ap, subst, arith}
use Rattle.ws_frames.specs.Header.{FoundSays}
use Rattle.ws_frames.specs.Fronts.{early, early_head}
use Rattle.ws_frames.proofs.HeaderLemmas.{known_of_read, short_of_read, broken_of_read, known_is_readable}
use Rattle.ws_frames.proofs.frame.header.find_front.Goals as goal

pub returns-in-Ok-Some : goal.returns-in-Ok-Some
unfolding early
returns-in-Ok-Some c =
    let read = known_of_read _ _ (rw c.in-Ok-Some.field-0-is at (c.in-Ok-Some.ensures c.args.limit)) in
    let readable = known_is_readable c.args.server c.args.limit c.args.src.now read.0 read.1 in
    subst (FoundSays c.args.server c.args.src.now c.find_within.result) (sym (ap (λ f. early_head c.args.limit f c.args.src.now) read.1))
    (c.find_within.ensures c.args.server read.0 read.2 readable)

pub returns-in-Ok-None : goal.returns-in-Ok-None
unfolding early
returns-in-Ok-None c = ap (λ f. early_head c.args.limit f c.args.src.now) (short_of_read _ (rw c.in-Ok-None.field-0-is at (c.in-Ok-None.ensures c.args.limit)))

pub returns-in-Err : goal.returns-in-Err
unfolding early
returns-in-Err c =
    let read = broken_of_read _ _ (c.in-Err.ensures c.args.limit) in
    record { rule = read.0; refused = ap (λ f. early_head c.args.limit f c.args.src.now) read.1; named = read.2; within = omega arith }
