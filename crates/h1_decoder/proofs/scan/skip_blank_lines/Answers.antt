use Rattle.h1_decoder.proofs.LineEndLemmas.{IsLineEndAt-rest, AreBlankLines-more}
use Rattle.h1_decoder.proofs.scan.skip_blank_lines.Goals as goal

pub loop-len-preserved : goal.loop-len-preserved
loop-len-preserved c =
    let bytes = c.args.bytes.now in
    let here = IsLineEndAt-rest bytes c.loop-len.start c.in-Some.len c.loop-len.invariant.0 c.in-Some.ensures.found in
    (here.in_range, λ blank. AreBlankLines-more bytes _ _ (c.loop-len.invariant.1 blank) here)
