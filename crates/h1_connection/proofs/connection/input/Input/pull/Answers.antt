use Rattle.h1_connection.proofs.PassingLemmas.{still_nothing}
use Rattle.h1_connection.proofs.connection.input.Input.pull.Goals as goal

pub returns-clause-nothing : goal.returns-clause-nothing
returns-clause-nothing c =
    still_nothing _ c.args.has_ended c.args.rest.now c.self.inside.bytes.items c.pull.result c.pull.new.self c.pull.new.unread.items c.pull.ensures.pulled c.pull.ensures.err
