use Rattle.h1_payload.specs.Places.{place_of}
use Rattle.h1_payload.proofs.PassLemmas.{way_all, way_stops}
use Rattle.h1_payload.proofs.pass.pass_body.Goals as goal

pub returns-in-None : goal.returns-in-None
returns-in-None c =
    way_stops (place_of c.args.start) (place_of c.loop-at.place) c.args.bytes.now c.loop-at.at c.loop-at.invariant c.in-None.ensures.stops

pub returns : goal.returns
returns c = way_all (place_of c.args.start) (place_of c.loop-at.place) c.args.bytes.now c.loop-at.at c.loop-at.invariant c.loop-at-test.false
