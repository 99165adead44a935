use Rattle.std.proofs.Common.{sym, ◌∙◌}
use Rattle.h1_connection.proofs.FrameLemmas.{upgraded_none}
use Rattle.h1_connection.proofs.connection.parts.Parts.is_exhausted.Goals as goal

pub waits_for_frame-requires-clause-unsearched : goal.waits_for_frame-requires-clause-unsearched
waits_for_frame-requires-clause-unsearched c = upgraded_none c.args.self.now (sym c.is_upgraded.ensures ∙ c.if-is_upgraded.true) c.requires

pub waits_for_frame-requires-clause-behind : goal.waits_for_frame-requires-clause-behind
waits_for_frame-requires-clause-behind c = c.requires.behind
