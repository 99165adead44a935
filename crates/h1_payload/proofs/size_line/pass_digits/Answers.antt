use Rattle.model_h1.specs.Place.{in_size}
use Rattle.h1_payload.proofs.QuietWays.{digit_leads}
use Rattle.h1_payload.proofs.size_line.pass_digits.Goals as goal

pub loop-at-preserved : goal.loop-at-preserved
loop-at-preserved c =
    digit_leads (in_size c.args.start) c.args.bytes.now c.args.from c.loop-at.at c.loop-at.size c.in-Some.digit c.loop-at.invariant c.loop-at-test.true
    c.if-size.true c.in-Some.ensures.exact.0 c.in-Some.ensures.value.0
