use Rattle.model_h1.proofs.TakenPlaces.{taken_chunk_leads}
use Rattle.model_h1.proofs.taking.a_chunk_leads_on.Goals as goal

pub returns-clause-some : goal.returns-clause-some
returns-clause-some c = λ place next bytes given behind e. (taken_chunk_leads place next bytes given behind e).some

pub returns-clause-place : goal.returns-clause-place
returns-clause-place c = λ place next bytes given behind e.
    let x = taken_chunk_leads place next bytes given behind e in
    (x.front, x.parts, x.leads)
