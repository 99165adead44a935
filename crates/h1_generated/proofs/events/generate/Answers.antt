use Rattle.std.specs.Prelude.{map}
use Rattle.h1_connection.specs.EventMeaning.{event_of}
use Rattle.h1_generated.specs.Generated.{generated}
use Rattle.h1_generated.proofs.Lists.{one_step, all_made}
use Rattle.h1_generated.proofs.events.generate.Goals as goal

pub loop-index-preserved : goal.loop-index-preserved
loop-index-preserved c =
    one_step (map event_of c.loop-index.events.items) (map event_of c.add_exchange.new.events.items) (generated c.args.seed c.args.count) c.loop-index.state
    c.next_state-state.result c.drawn.result c.loop-index.index c.args.count c.next_state-state.ensures c.drawn.ensures c.loop-index-test.true
    c.loop-index.invariant c.in_ok-add_exchange.ensures

pub returns : goal.returns
returns c =
    all_made (map event_of c.loop-index.events.items) (generated c.args.seed c.args.count) c.loop-index.state c.loop-index.index c.args.count
    c.loop-index-test.false c.loop-index.invariant
