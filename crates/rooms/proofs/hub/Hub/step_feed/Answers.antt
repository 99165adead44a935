use Rattle.h1_connection.specs.EventMeaning.{event_of}
use Rattle.model_rooms.specs.Hub.{feeds}
use Rattle.rooms.proofs.CallLemmas.{as_value}
use Rattle.rooms.proofs.hub.Hub.step_feed.Goals as goal

pub returns-clause-steps : goal.returns-clause-steps
returns-clause-steps c =
    as_value c.args.self.now c.feed.new.self (feeds c.args.number (event_of c.args.event.now)) c.args.event.now c.in_ok-event.event c.in-Some.outcome
    c.in_ok-boxed.boxed c.in_ok-event.ensures c.in_ok-boxed.ensures (rw c.in-Some.is at c.in_ok-outcome.ensures.fed)
