use Rattle.std.specs.Prelude.{ℕ, List, Option}
use Rattle.app_chat.specs.Flow.{Passes, sides}
use Rattle.app_chat.proofs.round.write_out.Given as goal

abbrev pub invariant-loop : goal.invariant-loop
invariant-loop g l = record {
  passes : (left : Option (List ℕ)) → Passes l.number (sides l.initial.house left (g.K.Sink.given l.initial.sink) l.initial.standing)
      (sides l.house left (g.K.Sink.given l.sink) l.standing);
}
