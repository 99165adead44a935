-- What both codecs keep is the codec.
use Rattle.h1_codec.specs.declared.client_codec.ClientCodec.{ClientCodec}
use Rattle.h1_codec.proofs.Views.{head_goes_on, head_left}
use Rattle.h1_codec.proofs.client_codec.ClientCodec.decode.Goals as goal

pub returns-clause-goes_on : goal.returns-clause-goes_on
returns-clause-goes_on c =
    let new : ClientCodec = record { client = c.decode_head.new.self } in
    head_goes_on c.args.self.now new c.args.src.now.items c.decode_head.new.src.items c.decode_head.result c.decode_head.ensures.headed.goes_on

pub returns-clause-waiting : goal.returns-clause-waiting
returns-clause-waiting c = c.decode_head.ensures.headed.waiting

pub returns-clause-refused : goal.returns-clause-refused
returns-clause-refused c = c.decode_head.ensures.headed.refused

pub returns-clause-left : goal.returns-clause-left
returns-clause-left c =
    let new : ClientCodec = record { client = c.decode_head.new.self } in
    head_left c.args.self.now new c.args.src.now.items c.decode_head.new.src.items c.decode_head.result c.decode_head.ensures.headed.left

pub returns-clause-seen : goal.returns-clause-seen
returns-clause-seen c = c.decode_head.ensures.headed.seen

pub returns-clause-step : goal.returns-clause-step
returns-clause-step c = c.decode_head.ensures.step

pub returns-clause-no_memory_needed : goal.returns-clause-no_memory_needed
returns-clause-no_memory_needed c = c.decode_head.ensures.no_memory_needed
