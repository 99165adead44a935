-- What was taken is the next of all frames.
use Rattle.ws_session.proofs.SessionLemmas.{next_frames, next_repeats, next_fails}
use Rattle.ws_session.proofs.session.Session.next.Goals as goal

pub returns-clause-frames : goal.returns-clause-frames
returns-clause-frames c = next_frames c.args.self.now c.take.new.self c.take.result c.take.ensures.front

pub returns-clause-repeated : goal.returns-clause-repeated
returns-clause-repeated c = next_repeats c.args.self.now c.take.new.self c.take.result c.take.ensures.front

pub returns-clause-failed : goal.returns-clause-failed
returns-clause-failed c = next_fails c.args.self.now c.take.new.self c.take.result c.take.ensures.front
