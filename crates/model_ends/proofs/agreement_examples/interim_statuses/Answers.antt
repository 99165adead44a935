use Rattle.std.proofs.Common.{refl}
use Rattle.model_ends.proofs.InterimStatuses.{not_interim}
use Rattle.model_ends.proofs.agreement_examples.interim_statuses.Goals as goal

pub returns-clause-counts : goal.returns-clause-counts
returns-clause-counts c = not_interim

pub returns-clause-continues : goal.returns-clause-continues
returns-clause-continues c = refl
