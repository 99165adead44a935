-- What is answered is a piece of the body, none yet, or that it is broken.
use Rattle.std.proofs.Common.{ap}
use Rattle.h1_payload.proofs.DecoderAnswers.{refusal_says, lacking_keeps, left_so}
use Rattle.h1_payload.proofs.decoder.PayloadDecoderDecoder.decode.Goals as goal

pub returns-clause-waiting : goal.returns-clause-waiting
returns-clause-waiting c none seen = c.decode.ensures.waits none

pub returns-clause-refused : goal.returns-clause-refused
returns-clause-refused c =
    refusal_says c.args.self.now c.decode.new.self c.args.src.now.items c.decode.new.src.items c.decode.result c.decode.ensures.refused

pub returns-clause-lacking : goal.returns-clause-lacking
returns-clause-lacking c =
    lacking_keeps c.args.self.now c.decode.new.self c.args.src.now.items c.decode.new.src.items c.decode.result
    (λ is. ((c.decode.ensures.no_memory is).0, ap (λ b. b.items) (c.decode.ensures.no_memory is).1))

pub returns-clause-left : goal.returns-clause-left
returns-clause-left c =
    left_so c.args.self.now c.decode.new.self c.args.src.now.items c.decode.new.src.items c.decode.result c.decode.ensures.refused
    c.decode.ensures.refuses (λ is. ((c.decode.ensures.no_memory is).0, ap (λ b. b.items) (c.decode.ensures.no_memory is).1))
