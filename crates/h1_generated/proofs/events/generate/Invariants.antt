use Rattle.std.proofs.Common.{◌≡◌, ◌+◌, ◌-◌, ◌++◌}
use Rattle.std.specs.Prelude.{map}
use Rattle.h1_connection.specs.EventMeaning.{event_of}
use Rattle.h1_generated.specs.Generated.{exchanges_from, generated}
use Rattle.h1_generated.proofs.events.generate.Given as goal

abbrev pub invariant-loop-index : goal.invariant-loop-index
invariant-loop-index l = map event_of l.events.items ++ exchanges_from l.state (l.index + 1) (l.fn.count - l.index) ≡ generated l.fn.seed l.fn.count
