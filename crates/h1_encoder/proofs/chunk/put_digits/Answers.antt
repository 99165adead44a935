use Rattle.std.proofs.Common.{arith}
use Rattle.h1_encoder.proofs.SizeLines.{fewer, digit_more, digit_last}
use Rattle.h1_encoder.proofs.chunk.put_digits.Goals as goal

pub loop-left-preserved : goal.loop-left-preserved
loop-left-preserved c =
    let less = fewer c.loop-left.left c.loop-left.at c.loop-left-test.true c.loop-left.invariant.fits in
    record {
      some = omega (arith, less.0);
      room = omega arith;
      fits = less.1;
      whole =
          digit_more c.args.size c.loop-left.left c.loop-left.at c.digit.result c.loop-left.line (omega arith) c.loop-left-test.true c.loop-left.invariant.some
          c.digit.ensures c.loop-left.invariant.whole;
    }

pub returns-clause-written : goal.returns-clause-written
returns-clause-written c =
    digit_last c.args.size c.loop-left.left c.loop-left.at c.digit-2.result c.loop-left.line (omega arith) c.loop-left-test.false c.loop-left.invariant.some
    c.digit-2.ensures c.loop-left.invariant.whole
