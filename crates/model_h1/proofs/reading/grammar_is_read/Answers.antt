use Rattle.model_h1.proofs.Agreement.{whole_read, unfinished_read, broken_read, runs_read}
use Rattle.model_h1.proofs.reading.grammar_is_read.Goals as goal

pub returns-clause-whole_body : goal.returns-clause-whole_body
returns-clause-whole_body c = whole_read

pub returns-clause-beginning : goal.returns-clause-beginning
returns-clause-beginning c = unfinished_read

pub returns-clause-no_body : goal.returns-clause-no_body
returns-clause-no_body c = broken_read

pub returns-clause-body_bytes : goal.returns-clause-body_bytes
returns-clause-body_bytes c = runs_read
