use Rattle.http_framing.proofs.AnyPieces.{pieces_are_whole}
use Rattle.http_framing.proofs.framing.pieces_make_a_whole.Goals as goal

pub returns : goal.returns
returns g c = pieces_are_whole g.T.Decoder.reads g.T.Decoder.given
