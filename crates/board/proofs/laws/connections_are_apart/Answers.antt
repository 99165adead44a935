use Rattle.board.proofs.Apart.{apart, comes}
use Rattle.board.proofs.laws.connections_are_apart.Goals as goal

pub returns-clause-those_there : goal.returns-clause-those_there
returns-clause-those_there c = λ before after turns id was run there. apart turns before after id was run there

pub returns-clause-those_opened : goal.returns-clause-those_opened
returns-clause-those_opened c = λ before after turns id now run past there. comes turns before after id now run past there
