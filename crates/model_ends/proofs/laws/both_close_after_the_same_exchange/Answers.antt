use Rattle.model_ends.proofs.CloseTogether.{server_closes_too, client_closes_too}
use Rattle.model_ends.proofs.laws.both_close_after_the_same_exchange.Goals as goal

pub returns-clause-client : goal.returns-clause-client
returns-clause-client c client server asked kept served connected plain clear closing =
    server_closes_too client server asked kept served connected plain clear closing

pub returns-clause-server : goal.returns-clause-server
returns-clause-server c client server asked kept served connected plain clear end all free fine =
    client_closes_too client server asked kept served connected plain clear end all free fine
