use Rattle.model_h1.proofs.DateLemmas.{date_same, date_exists}
use Rattle.model_h1.proofs.text.date_is_the_calendars.Goals as goal

pub returns-clause-same : goal.returns-clause-same
returns-clause-same c = date_same

pub returns-clause-exists : goal.returns-clause-exists
returns-clause-exists c = date_exists
