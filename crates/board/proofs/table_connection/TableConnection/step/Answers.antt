use Rattle.std.proofs.Common.{subst}
use Rattle.h1_connection.specs.EventMeaning.{event_of, SaysOutcome}
use Rattle.h1_connection.specs.State.{GoesOn}
use Rattle.board.proofs.table_connection.TableConnection.step.Goals as goal

pub returns-clause-stands : goal.returns-clause-stands
returns-clause-stands g c =
    subst (λ seat. GoesOn seat.connection (event_of c.args.event.now) (SaysOutcome c.in_ok-outcome.outcome) c.step.new.self) c.self.view_is c.in_ok-outcome.ensures.stands
