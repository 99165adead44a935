use Rattle.model_ends.proofs.Agreement.{all_is_read, all_is_taken}
use Rattle.model_ends.proofs.BodyServed.{all_is_served}
use Rattle.model_ends.proofs.NothingCut.{none_is_cut}
use Rattle.model_ends.proofs.NothingPending.{all_is_pulled}
use Rattle.model_ends.proofs.laws.nothing_is_left.Goals as goal

pub returns-clause-client : goal.returns-clause-client
returns-clause-client c client server asked kept next served connected plain all allowed step =
    all_is_read client server asked kept next served connected plain all allowed step

pub returns-clause-body : goal.returns-clause-body
returns-clause-body c client server asked kept next served connected plain all allowed step =
    all_is_pulled client server asked kept next served connected plain all allowed step

pub returns-clause-cut : goal.returns-clause-cut
returns-clause-cut c client server asked kept next served fault connected plain all allowed step =
    none_is_cut client server asked kept next served fault connected plain all allowed step

pub returns-clause-server : goal.returns-clause-server
returns-clause-server c client server asked kept served connected plain all waits = all_is_taken client server asked kept served connected plain all waits

pub returns-clause-server_body : goal.returns-clause-server_body
returns-clause-server_body c client server asked kept served connected plain all allowed waits =
    all_is_served client server asked kept served connected plain all allowed waits
