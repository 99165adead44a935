use Rattle.std.proofs.Common.{refl, arith}
use Rattle.model_h1.proofs.LineFeeds.{header_lines-fields}
use Rattle.h1_decoder.proofs.decoder.has_few_lines.Goals as goal

pub returns-in-None : goal.returns-in-None
returns-in-None c =
    let (text, reads, few) = c.requires in
    (λ _. omega (arith, few, header_lines-fields c.args.piece.now text reads c.in-None.ensures.none), λ _. refl)
