use Rattle.h1_connection.proofs.connection.ahead.+heads_in.Given as goal

abbrev pub decreases-heads_in : goal.decreases-heads_in
decreases-heads_in l = l.limit
