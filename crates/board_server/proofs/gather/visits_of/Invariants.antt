use Rattle.std.proofs.Common.{◌≡◌, ◌≤◌, ◌+◌, vec_len}
use Rattle.std.specs.List.{AllByRecursion}
use Rattle.std.specs.Vec.{vec_capacity}
use Rattle.board_server.specs.Visits.{WasServed, AreMatched}
use Rattle.board_server.proofs.gather.visits_of.Given as goal

abbrev pub invariant-loop-one : goal.invariant-loop-one
invariant-loop-one g l = record {
  served : AllByRecursion (λ s. WasServed l.serving.config l.serving.polls (g.K.Clock.may_give l.serving.clock) (g.W.Transport.wiring s.transport) (g.L.Recorder.noted s.recorder) s.pass.pass s.end) l.served.items;
  matched : AreMatched l.serving.config l.serving.polls (g.K.Clock.may_give l.serving.clock) g.W.Transport.wiring g.L.Recorder.noted l.visits.items l.back.items;
  count_visits : vec_len l.served + vec_len l.visits ≡ vec_len l.initial.served + vec_len l.initial.visits;
  count_passes : vec_len l.served + vec_len l.back ≡ vec_len l.initial.served + vec_len l.initial.back;
  room_for_visits : vec_len l.served + vec_len l.visits ≤ vec_capacity l.visits;
  room_for_passes : vec_len l.served + vec_len l.back ≤ vec_capacity l.back;
  room : vec_capacity l.back ≡ vec_capacity l.initial.back;
}

abbrev pub decreases-loop-one : goal.decreases-loop-one
decreases-loop-one g l = vec_len l.served
