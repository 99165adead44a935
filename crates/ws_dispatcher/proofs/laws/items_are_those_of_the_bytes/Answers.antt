use Rattle.ws_dispatcher.proofs.ReadsAll.{reads_all}
use Rattle.ws_dispatcher.specs.Steps.{Unwritten}
use Rattle.ws_dispatcher.proofs.laws.items_are_those_of_the_bytes.Goals as goal

pub returns : goal.returns
returns g c keeps = reads_all g.U.Decoder.reads g.U.Decoder.given g.U.Decoder.nothing g.U.Decoder.breaks g.U.Decoder.lacks g.U.Decoder.seen g.U.Decoder.leaves g.U.Encoder.writes (Unwritten g.U.Encoder.refuses g.U.Encoder.lacks g.U.Encoder.leaves) keeps
