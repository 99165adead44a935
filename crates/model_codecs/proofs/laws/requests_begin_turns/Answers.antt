use Rattle.model_codecs.proofs.Clauses.{turn_begins, turn_goes_on}
use Rattle.model_codecs.proofs.laws.requests_begin_turns.Goals as goal

pub returns-clause-head : goal.returns-clause-head
returns-clause-head c old new head size text wrote = turn_begins old new text head size wrote

pub returns-clause-piece : goal.returns-clause-piece
returns-clause-piece c old new piece text wrote = turn_goes_on old new text piece wrote
