use Rattle.h1_connection.proofs.connection.Connection.new.Goals as goal

pub invariant_of-result : goal.invariant_of-result
invariant_of-result c = c.new.ensures.sound _
