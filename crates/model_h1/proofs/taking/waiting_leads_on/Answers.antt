use Rattle.model_h1.proofs.TakenPlaces.{waiting_leads}
use Rattle.model_h1.proofs.taking.waiting_leads_on.Goals as goal

pub returns : goal.returns
returns c = waiting_leads
