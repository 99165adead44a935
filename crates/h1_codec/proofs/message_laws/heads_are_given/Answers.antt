use Rattle.std.proofs.Common.{[], ◌++◌}
use Rattle.http_framing.specs.AnyPieces.{all_came}
use Rattle.http_framing.proofs.AnyPieces.{pieces_are_whole}
use Rattle.h1_codec.specs.Heads.{Reads, given}
use Rattle.h1_codec.proofs.message_laws.heads_are_given.Goals as goal

pub returns : goal.returns
returns g c = λ search calls z r anew fed last.
    pieces_are_whole (Reads g.T.ReadHead.kind) given search [] calls z r fed last (anew (all_came calls ++ z))
