use Rattle.h1_connection.proofs.StepLemmas.{rest_behind}
use Rattle.h1_connection.proofs.connection.parts.Parts.waits_for_frame.Goals as goal

pub waits_for_frame-requires-clause-behind : goal.waits_for_frame-requires-clause-behind
waits_for_frame-requires-clause-behind c = rest_behind c.args.self.now c.in-Some.exchange c.in-Some.is c.requires.behind
