use Rattle.h1_connection.proofs.RunLemmas.{IsNotedTo}
use Rattle.h1_connection.proofs.driver.drive.Given as goal

abbrev pub invariant-loop-index : goal.invariant-loop-index
invariant-loop-index l = IsNotedTo l.config l.events l.index l.outcomes.items l.connection
