use Rattle.std.proofs.Common.{◌≡◌, ◌++◌, List, ℕ, length}
use Rattle.h1_replay.specs.Output.{HasTaken, given_as}
use Rattle.h1_replay.proofs.output.write_all.Given as goal

abbrev pub invariant-loop-rest : goal.invariant-loop-rest
invariant-loop-rest g l = (front : List ℕ) × (l.text ≡ front ++ l.rest)
    × HasTaken (given_as (g.K.Sink.given l.initial.output) (g.K.Sink.faults l.initial.output) (g.K.Sink.calls l.initial.output))
    (given_as (g.K.Sink.given l.output) (g.K.Sink.faults l.output) (g.K.Sink.calls l.output)) front

abbrev pub decreases-loop-rest : goal.decreases-loop-rest
decreases-loop-rest g l = length l.rest
