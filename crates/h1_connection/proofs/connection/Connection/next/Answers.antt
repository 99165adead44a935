use Rattle.h1_connection.proofs.GivenLemmas.{next_is_allowed}
use Rattle.h1_connection.proofs.connection.Connection.next.Goals as goal

pub ask-requires : goal.ask-requires
ask-requires c = record { allowed = next_is_allowed c.args.self.now c.requires.can_next }
