-- What is answered is a frame of the bytes, none yet, or the rule that they break.
use Rattle.ws_frames.proofs.PieceLemmas.{decoded_goes_on}
use Rattle.ws_frames.proofs.AnswerLemmas.{waits_says, refusal_says, lacking_keeps, left_so}
use Rattle.ws_frames.proofs.framing.CodecDecoder.decode.Goals as goal

pub returns-clause-goes_on : goal.returns-clause-goes_on
returns-clause-goes_on g c =
    decoded_goes_on c.args.self.now c.decode.new.self c.args.src.now.items c.decode.new.src.items c.decode.result c.decode.ensures.frame
    c.decode.ensures.others

pub returns-clause-waiting : goal.returns-clause-waiting
returns-clause-waiting g c none seen =
    waits_says c.args.self.now c.decode.new.self c.args.src.now.items c.decode.new.src.items c.decode.result c.decode.ensures.frame none

pub returns-clause-refused : goal.returns-clause-refused
returns-clause-refused g c =
    refusal_says c.args.self.now c.decode.new.self c.args.src.now.items c.decode.new.src.items c.decode.result c.decode.ensures.frame

pub returns-clause-lacking : goal.returns-clause-lacking
returns-clause-lacking g c =
    lacking_keeps c.args.self.now c.decode.new.self c.args.src.now.items c.decode.new.src.items c.decode.result c.decode.ensures.frame
    c.decode.ensures.others

pub returns-clause-left : goal.returns-clause-left
returns-clause-left g c =
    left_so c.args.self.now c.decode.new.self c.args.src.now.items c.decode.new.src.items c.decode.result c.decode.ensures.frame
    c.decode.ensures.others
