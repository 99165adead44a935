use Rattle.std.proofs.Common.{◌≡◌, ◌≤◌, ◌+◌, ◌++◌, List, vec_len}
use Rattle.std.specs.Vec.{vec_capacity}
use Rattle.board.specs.Views.{Held, entries_held}
use Rattle.board_server.proofs.gather.add_spare.Given as goal

abbrev pub invariant-loop-fresh : goal.invariant-loop-fresh
invariant-loop-fresh g l = record {
  rest : (rest : List Held) × (l.back.items ≡ l.initial.back.items ++ rest) × (entries_held rest ≡ 0);
  count : vec_len l.spare + vec_len l.back ≡ vec_len l.initial.spare + vec_len l.initial.back;
  room : vec_len l.spare + vec_len l.back ≤ vec_capacity l.back;
}

abbrev pub decreases-loop-fresh : goal.decreases-loop-fresh
decreases-loop-fresh g l = vec_len l.spare
