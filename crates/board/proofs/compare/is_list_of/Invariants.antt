use Rattle.std.specs.Prelude.{◌≡◌, ◌≤◌, length, take}
use Rattle.board.specs.Journal.{of_pass}
use Rattle.board.proofs.compare.is_list_of.Given as goal

abbrev pub invariant-loop-entry : goal.invariant-loop-entry
invariant-loop-entry l = (l.next ≤ length l.own) × (of_pass l.number (take l.entry-index l.journal) ≡ take l.next l.own)
