use Rattle.std.proofs.Common.{◌≡◌, ℕ, List, ◌++◌}
use Rattle.std.specs.Slice.Iter.{chunks_rest, chunks_size}
use Rattle.serve_blocking.specs.Acts.{Sends}
use Rattle.serve_blocking.proofs.body.Body.send.Given as goal

abbrev pub invariant-loop-piece : goal.invariant-loop-piece
invariant-loop-piece g l = record {
  can : (goal.iterator-loop-piece g).can_next l.piece-iterator;
  ends : (goal.iterator-loop-piece g).is_finite l.piece-iterator;
  size : chunks_size l.piece-iterator ≡ 16384;
  sends : (sent : List ℕ) × Sends sent l.initial.self l.self × (sent ++ chunks_rest l.piece-iterator ≡ l.fn.bytes);
}
