use Rattle.std.proofs.Common.{◌≡◌, ◌++◌, drop}
use Rattle.h1_replay.specs.HubReport.{buffered_lines}
use Rattle.h1_replay.proofs.hub_report.put_buffered_lines.Given as goal

abbrev pub invariant-loop-number : goal.invariant-loop-number
invariant-loop-number l = l.text.items ++ buffered_lines l.number (drop l.number l.buffered) ≡ l.fn.text.items ++ buffered_lines 0 l.buffered
