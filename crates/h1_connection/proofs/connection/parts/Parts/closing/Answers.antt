use Rattle.h1_connection.proofs.ClosingLemmas.{failed_end, other_end}
use Rattle.h1_connection.proofs.connection.parts.Parts.closing.Goals as goal

pub returns-in-Some : goal.returns-in-Some
returns-in-Some c = failed_end _ c.args.self.now c.in-Some.end c.in-Some.is

pub returns-in-None : goal.returns-in-None
returns-in-None c = other_end _ c.args.self.now _ c.in-None.is c.closing_unless_failed.ensures
