use Rattle.std.proofs.Common.{◌≡◌, ◌+◌, length}
use Rattle.h1_replay.specs.HubScript.{events_of}
use Rattle.h1_replay.proofs.HubEventLines.{after}
use Rattle.h1_replay.proofs.hub_script.event_lines.Given as goal

abbrev pub invariant-loop-line : goal.invariant-loop-line
invariant-loop-line l = events_of l.hold_size 2 l.fn.lines ≡ after l.events.items (events_of l.hold_size (length l.events.items + 2) l.lines)
