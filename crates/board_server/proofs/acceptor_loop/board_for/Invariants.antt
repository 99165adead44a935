use Rattle.std.proofs.Common.{◌≡◌, ◌≤◌, vec_len}
use Rattle.std.specs.Vec.{vec_capacity}
use Rattle.board_server.proofs.acceptor_loop.board_for.Given as goal

abbrev pub invariant-loop : goal.invariant-loop
invariant-loop g l = record {
  board : l.board.passes ≡ record { made = l.counter; next = l.counter; retired = 0 };
  count : vec_len l.passes ≡ l.counter;
  room : l.most ≤ vec_capacity l.passes;
}
