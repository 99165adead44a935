use Rattle.std.proofs.Common.{◌≡◌, ◌≤◌, ◌+◌, false, vec_len}
use Rattle.std.specs.List.{AllByRecursion}
use Rattle.std.specs.Vec.{vec_capacity}
use Rattle.board_server.specs.Visits.{WasServed, counted_on}
use Rattle.board_server.proofs.accept.accept_all.Given as goal

abbrev pub invariant-loop-pass : goal.invariant-loop-pass
invariant-loop-pass g l = record {
  count : l.conn ≡ vec_len l.handles + vec_len l.served;
  all : vec_len l.passes + l.conn ≡ vec_len l.initial.passes;
  room_for_handles : vec_len l.initial.passes ≤ vec_capacity l.handles;
  room_for_served : vec_len l.initial.passes ≤ vec_capacity l.served;
  promises : AllByRecursion (λ h. h.promise ≡ l.serving) l.handles.items;
  kept : AllByRecursion (λ s. WasServed l.serving.config l.serving.polls (g.K.Clock.may_give l.serving.clock) (g.W.Transport.wiring s.transport) (g.L.Recorder.noted s.recorder) s.pass.pass s.end) l.served.items;
  given : (g.D.Acceptor.opening l.acceptor).given ≡ counted_on l.conn (g.D.Acceptor.opening l.initial.acceptor).given;
  never_falls : (g.D.Acceptor.opening l.initial.acceptor).faults ≤ (g.D.Acceptor.opening l.acceptor).faults;
  not_failed : l.has_failed ≡ false;
}

abbrev pub decreases-loop-pass : goal.decreases-loop-pass
decreases-loop-pass g l = vec_len l.passes
