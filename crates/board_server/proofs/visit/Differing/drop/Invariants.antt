use Rattle.board_server.proofs.visit.Differing.drop.Given as goal

abbrev pub decreases-loop-pass : goal.decreases-loop-pass
decreases-loop-pass g l = goal.left-loop-pass g l
