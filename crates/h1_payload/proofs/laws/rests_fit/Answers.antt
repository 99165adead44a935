use Rattle.h1_payload.proofs.Fitting.{whole_fits, still_fits}
use Rattle.h1_payload.proofs.laws.rests_fit.Goals as goal

pub returns-clause-whole : goal.returns-clause-whole
returns-clause-whole c = whole_fits

pub returns-clause-pulled : goal.returns-clause-pulled
returns-clause-pulled c = still_fits
