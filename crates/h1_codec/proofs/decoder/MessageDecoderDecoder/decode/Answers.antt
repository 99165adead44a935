-- What is answered is the next head, none yet, or why it is refused.
use Rattle.h1_codec.proofs.DecoderAnswers.{waits_says, refusal_says}
use Rattle.h1_codec.proofs.decoder.MessageDecoderDecoder.decode.Goals as goal

pub returns-clause-waiting : goal.returns-clause-waiting
returns-clause-waiting g c =
    waits_says g.T.ReadHead.kind g.met.T.ReadHead.one_reading c.args.self.now c.args.src.now.items c.decode.result c.decode.ensures.none

pub returns-clause-refused : goal.returns-clause-refused
returns-clause-refused g c =
    refusal_says g.T.ReadHead.kind g.met.T.ReadHead.one_reading c.args.self.now c.args.src.now.items c.decode.result c.decode.ensures.fault
