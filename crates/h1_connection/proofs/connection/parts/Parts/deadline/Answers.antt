use Rattle.h1_connection.specs.Parts.{kept_of}
use Rattle.h1_connection.proofs.DeadlineLemmas.{over_deadline, running_deadline}
use Rattle.h1_connection.proofs.connection.parts.Parts.deadline.Goals as goal

pub returns-then-self : goal.returns-then-self
returns-then-self c = over_deadline _ (kept_of c.args.self.now) c.if-self.true

pub returns : goal.returns
returns c = running_deadline _ (kept_of c.args.self.now) _ _ _ c.if-self.false c.now.ensures c.times_out_at.ensures c.still_comes.ensures
