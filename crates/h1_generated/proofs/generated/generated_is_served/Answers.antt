use Rattle.h1_generated.proofs.Runs.{all_heads, all_written, stays_open, not_over}
use Rattle.h1_generated.proofs.generated.generated_is_served.Goals as goal

pub returns-clause-heads : goal.returns-clause-heads
returns-clause-heads c = λ seed count trace fits run. all_heads seed count trace fits run

pub returns-clause-written : goal.returns-clause-written
returns-clause-written c = λ seed count trace fits run. all_written seed count trace fits run

pub returns-clause-stays : goal.returns-clause-stays
returns-clause-stays c = λ seed count trace past fits run is. stays_open seed count trace fits run past is

pub returns-clause-goes_on : goal.returns-clause-goes_on
returns-clause-goes_on c = λ seed count trace fits run. not_over seed count trace fits run
