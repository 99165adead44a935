use Rattle.std.proofs.Common.{◌≡◌, ◌≤◌, ◌+◌, vec_len}
use Rattle.std.specs.List.{AllByRecursion}
use Rattle.std.specs.Vec.{vec_capacity}
use Rattle.board_server.proofs.accept.join_all.Given as goal

abbrev pub invariant-loop-handle : goal.invariant-loop-handle
invariant-loop-handle g l = record {
  count : vec_len l.handles + vec_len l.served ≡ vec_len l.initial.handles + vec_len l.initial.served;
  room : vec_len l.handles + vec_len l.served ≤ vec_capacity l.served;
  promises : AllByRecursion (λ h. h.promise ≡ l.promise) l.handles.items;
  kept : AllByRecursion (λ s. g.P.Promise.kept_by l.promise s) l.served.items;
}

abbrev pub decreases-loop-handle : goal.decreases-loop-handle
decreases-loop-handle g l = goal.left-loop-handle g l
