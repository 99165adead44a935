use Rattle.std.specs.Prelude.{◌≡◌, []}
use Rattle.app_chat.specs.Moves.{Moves}
use Rattle.app_chat.proofs.round.take_turns.Given as goal

abbrev pub invariant-loop : goal.invariant-loop
invariant-loop l = record {
  moves : Moves l.number l.initial.house [] [] l.house;
  owed : l.standing.owed ≡ l.initial.standing.owed;
  lost : l.standing.is_lost ≡ l.initial.standing.is_lost;
}
