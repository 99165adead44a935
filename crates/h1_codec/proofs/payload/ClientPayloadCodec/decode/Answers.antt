-- What both codecs keep is the codec.
use Rattle.h1_codec.specs.declared.payload.ClientPayloadCodec.{ClientPayloadCodec}
use Rattle.h1_codec.proofs.Views.{chunk_goes_on, chunk_lacking}
use Rattle.h1_codec.proofs.payload.ClientPayloadCodec.decode.Goals as goal

pub returns-clause-goes_on : goal.returns-clause-goes_on
returns-clause-goes_on c =
    let new : ClientPayloadCodec = record { client = c.decode_chunk.new.self } in
    chunk_goes_on c.args.self.now new c.args.src.now.items c.decode_chunk.new.src.items c.decode_chunk.result c.decode_chunk.ensures.chunked.goes_on

pub returns-clause-waiting : goal.returns-clause-waiting
returns-clause-waiting c = c.decode_chunk.ensures.chunked.waiting

pub returns-clause-refused : goal.returns-clause-refused
returns-clause-refused c = c.decode_chunk.ensures.chunked.refused

pub returns-clause-lacking : goal.returns-clause-lacking
returns-clause-lacking c =
    let new : ClientPayloadCodec = record { client = c.decode_chunk.new.self } in
    chunk_lacking c.args.self.now new c.args.src.now.items c.decode_chunk.new.src.items c.decode_chunk.result c.decode_chunk.ensures.chunked.lacking

pub returns-clause-seen : goal.returns-clause-seen
returns-clause-seen c = c.decode_chunk.ensures.chunked.seen

pub returns-clause-step : goal.returns-clause-step
returns-clause-step c = c.decode_chunk.ensures.step

pub returns-clause-no_memory_needed : goal.returns-clause-no_memory_needed
returns-clause-no_memory_needed c = c.decode_chunk.ensures.no_memory_needed
