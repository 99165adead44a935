use Rattle.std.proofs.Common.{◌≡◌, ◌++◌, length}
use Rattle.board_server.specs.Texts.{count_lines}
use Rattle.board_server.proofs.text.put_lines.Given as goal

abbrev pub invariant-loop-name : goal.invariant-loop-name
invariant-loop-name l = l.text.items ++ count_lines l.rows ≡ l.initial.text.items ++ count_lines l.initial.rows

abbrev pub decreases-loop-name : goal.decreases-loop-name
decreases-loop-name l = length l.rows
