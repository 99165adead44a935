use Rattle.std.proofs.Common.{ap}
use Rattle.h1_connection.proofs.StepLemmas.{sound_may}
use Rattle.h1_connection.specs.Stock.{Stock}
use Rattle.h1_connection.proofs.connection.parts.Parts.fail_answer.Goals as goal

pub note-requires : goal.note-requires
note-requires c = let may = sound_may c.args.config.now c.args.self.now c.requires in record { searched = may.searched; behind = may.behind }

pub returns-clause-ahead : goal.returns-clause-ahead
returns-clause-ahead c = ap (λ (i : Stock). i.ahead) c.note.ensures.input
