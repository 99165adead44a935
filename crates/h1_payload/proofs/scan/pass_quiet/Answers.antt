use Rattle.std.proofs.Common.{sym, ◌∙◌}
use Rattle.h1_payload.specs.Places.{place_of}
use Rattle.h1_payload.proofs.QuietWays.{step_leads}
use Rattle.h1_payload.proofs.scan.pass_quiet.Goals as goal

pub loop-at-preserved : goal.loop-at-preserved
loop-at-preserved c =
    step_leads (place_of c.args.start) (place_of c.loop-at.place) (place_of c.step-place.result) c.args.bytes.now 0 c.loop-at.at c.loop-at.invariant
    (sym c.is_quiet.ensures ∙ c.if-is_quiet.true) c.loop-at-test.true c.step-place.ensures
