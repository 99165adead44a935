use Rattle.h1_generated.proofs.Runs.{few_taken, few_body, few_written}
use Rattle.h1_generated.proofs.generated.generated_is_bounded.Goals as goal

pub returns-clause-taken : goal.returns-clause-taken
returns-clause-taken c = few_taken

pub returns-clause-body : goal.returns-clause-body
returns-clause-body c = few_body

pub returns-clause-written : goal.returns-clause-written
returns-clause-written c = few_written
