use Rattle.std.proofs.Common.{◌≡◌, ◌++◌, List, ℕ, length}
use Rattle.std.specs.Io.KnownBytes.{Appends}
use Rattle.app_get.proofs.show.write_all.Given as goal

abbrev pub invariant-loop-rest : goal.invariant-loop-rest
invariant-loop-rest g l = record {
  written : (front : List ℕ) × (l.bytes ≡ front ++ l.rest) × Appends (g.O.Sink.given l.initial.out) (g.O.Sink.given l.out) front;
  unfailed : g.O.Sink.faults l.out ≡ g.O.Sink.faults l.initial.out;
}

abbrev pub decreases-loop-rest : goal.decreases-loop-rest
decreases-loop-rest g l = length l.rest
