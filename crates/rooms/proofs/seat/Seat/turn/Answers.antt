use Rattle.std.proofs.Common.{refl}
use Rattle.std.specs.Prelude.{option_map}
use Rattle.std.specs.Option.{option_copied}
use Rattle.ws_frames.specs.Sent.{message_says}
use Rattle.rooms.proofs.AskLemmas.{none_not_some}
use Rattle.rooms.proofs.TurnLemmas.{turned, no_turn}
use Rattle.rooms.proofs.seat.Seat.turn.Goals as goal

pub returns-clause-turned : goal.returns-clause-turned
returns-clause-turned c =
    turned c.args.self.now c.step.new.self (option_map message_says (option_copied c.args.front))
    (record { event = c.in-Some.event; outcome = c.in_ok-outcome.outcome }) c.turn_event.ensures.holds
    (rw c.in-Some.is at c.in_ok-event.ensures.asked) c.in_ok-outcome.ensures.stands

pub returns-in_default-clause-turned : goal.returns-in_default-clause-turned
returns-in_default-clause-turned c =
    no_turn c.args.self.now (option_map message_says (option_copied c.args.front)) c.turn_event.ensures.holds
    (rw c.in_default.is at c.in_ok-event.ensures.asked)

pub returns-clause-asked : goal.returns-clause-asked
returns-clause-asked c = (rw c.in-Some.is at c.in_ok-event.ensures.asked, c.in_ok-outcome.ensures.stands)

pub returns-in_default-clause-asked : goal.returns-in_default-clause-asked
returns-in_default-clause-asked c = (rw c.in_default.is at c.in_ok-event.ensures.asked, refl)

pub returns-in_err-outcome-clause-no_memory_needed : goal.returns-in_err-outcome-clause-no_memory_needed
returns-in_err-outcome-clause-no_memory_needed c = λ none.
    absurd (none_not_some c.args.self.now _ c.in-Some.event (rw c.in-Some.is at c.in_ok-event.ensures.asked) none)
