use Rattle.std.proofs.Common.{◌≡◌, ◌++◌, List, ℕ, length}
use Rattle.std.specs.Io.KnownBytes.{Appends}
use Rattle.board_server.proofs.write.write_all.Given as goal

abbrev pub invariant-loop-rest : goal.invariant-loop-rest
invariant-loop-rest g l = record {
  front : (front : List ℕ) × (l.text ≡ front ++ l.rest) × Appends (g.O.Sink.given l.initial.output) (g.O.Sink.given l.output) front;
  faults : g.O.Sink.faults l.output ≡ g.O.Sink.faults l.initial.output;
}

abbrev pub decreases-loop-rest : goal.decreases-loop-rest
decreases-loop-rest g l = length l.rest
