-- What was found says what is taken.
use Rattle.std.proofs.Common.{sym, ap, subst, arith}
use Rattle.ws_frames.specs.Header.{FoundSays}
use Rattle.ws_frames.specs.Parsed.{parsed, parsed_head}
use Rattle.ws_frames.proofs.HeaderLemmas.{known_of_read, short_of_read, broken_of_read, known_is_readable}
use Rattle.ws_frames.proofs.frame.header.find_frame.Goals as goal

pub returns-in-Ok-Some : goal.returns-in-Ok-Some
unfolding parsed
returns-in-Ok-Some c =
    let read = known_of_read _ _ (rw c.in-Ok-Some.field-0-is at (c.in-Ok-Some.ensures c.args.max_size)) in
    let readable = known_is_readable c.args.server c.args.max_size c.args.src.now read.0 read.1 in
    subst (FoundSays c.args.server c.args.src.now c.find_payload.result) (sym (ap (λ f. parsed_head c.args.max_size f c.args.src.now) read.1))
    (c.find_payload.ensures c.args.server read.0 read.2 readable)

pub returns-in-Ok-None : goal.returns-in-Ok-None
unfolding parsed
returns-in-Ok-None c = ap (λ f. parsed_head c.args.max_size f c.args.src.now) (short_of_read _ (rw c.in-Ok-None.field-0-is at (c.in-Ok-None.ensures c.args.max_size)))

pub returns-in-Err : goal.returns-in-Err
unfolding parsed
returns-in-Err c =
    let read = broken_of_read _ _ (c.in-Err.ensures c.args.max_size) in
    record { rule = read.0; refused = ap (λ f. parsed_head c.args.max_size f c.args.src.now) read.1; named = read.2; within = omega arith }
