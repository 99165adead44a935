use Rattle.model_ends.proofs.EndedBodies.{body_is_over, older_body_is_over}
use Rattle.model_ends.proofs.laws.an_older_answer_has_its_end.Goals as goal

pub returns-clause-asked : goal.returns-clause-asked
returns-clause-asked c setting before later opened kept ran pulls again going allowed =
    body_is_over setting before later opened kept ran pulls again going allowed

pub returns-clause-answered : goal.returns-clause-answered
returns-clause-answered c setting before later opened kept next a ran pulls again allowed step =
    older_body_is_over setting before later opened kept next a ran pulls again allowed step
